use Rattle.std.proofs.Common.{rules, ◌^◌, ◌<◌}
use Rattle.std.proofs.Math.Pow.{pow-lt}
use Rattle.model.proofs.sets.member.Goals as goal

pub returns : goal.returns
returns c below = let fits : 2 ^ c.args.station < 2 ^ 8 = pow-lt below in search rules
