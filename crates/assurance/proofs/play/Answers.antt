use Rattle.assurance.proofs.Holds.{sound_performed}
use Rattle.assurance.proofs.play.Goals as goal

pub returns-clause-sound : goal.returns-clause-sound
returns-clause-sound g c fit = sound_performed (g.met.P.Presumption.lawful c.args.presumption) fit c.in_ok-run.ensures.presumes c.in_ok-run.ensures.state c.in_ok-answers.ensures
