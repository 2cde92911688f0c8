-- A whole step under a fuse: what performing its acts one by one comes to.
use Rattle.std.proofs.Common.{◌≡◌, ℕ, zero, suc, ◌+◌, ◌<◌, ◌≤◌, true, false, cond, List, [], ◌∷◌, length, take, Ok, Err, Result, arith}
use Rattle.actor.proofs.Performed.{dark_performed}
use Rattle.actor.specs.Acting.{Acting, begun, burnt, after, performed}
use Rattle.actor.specs.Store.{Store, done, all_done, journal_cut, answer_under_fuse, done_under_fuse}
use Rattle.actor.specs.declared.fuse.Fuse.{Fuse}
use Rattle.actor.specs.declared.fuse.PowerCut.{PowerCut}
use Rattle.station.specs.Acts.{Act}
use Rattle.std.proofs.lemmas.Bool.Decides.{nat_tests}

-- station s under the fuse f, with n acts done
abbrev lit : ℕ → Fuse → ℕ → Store → Acting
lit s f n w = record { store = w; station = s; fuse = f; done = n; dark = false }

-- the fuse is long enough: all acts are done
fuse_holds : (acts : List Act) (s : ℕ) (f : Fuse) (n : ℕ) (w : Store) → n + length acts ≤ f.acts → performed acts (lit s f n w) ≡ lit s f (n + length acts) (all_done s acts w)
unfolding after burnt all_done
fuse_holds [] s f n w h = grind arith
fuse_holds (a ∷ acts) s f n w h = grind (arith, nat_tests, fuse_holds acts s f (n + 1) (done s a w))

-- a station that went dark in a step
abbrev cut_in : ℕ → Fuse → Store → Acting
cut_in s f w = record { store = journal_cut s f.kept w; station = s; fuse = f; done = f.acts; dark = true }

-- the fuse is below the number of acts: so many as it still allows are done, then the station is cut
fuse_burns : (k : ℕ) (acts : List Act) (s : ℕ) (f : Fuse) (n : ℕ) (w : Store) → n + k ≡ f.acts → k < length acts → performed acts (lit s f n w) ≡ cut_in s f (all_done s (take k acts) w)
unfolding after burnt all_done
fuse_burns k [] s f n w e h = absurd (omega arith)
fuse_burns zero (a ∷ acts) s f n w e h = grind (arith, nat_tests, dark_performed)
fuse_burns (suc k) (a ∷ acts) s f n w e h = grind (arith, nat_tests, fuse_burns k acts s f (n + 1) (done s a w))

-- what a station in a step answers: how many acts are done, or the power cut after so many
abbrev pub answer_of : Acting → Result ℕ PowerCut
answer_of l = cond l.dark (Err (record { after = l.done })) (Ok l.done)

-- what the acts of a step under a fuse change, is what performing them one by one changes
pub store_under_fuse : (s : ℕ) (acts : List Act) (f : Fuse) (w : Store) → done_under_fuse s acts f.acts f.kept w ≡ (performed acts (begun s f w)).store
unfolding done_under_fuse
store_under_fuse s acts f w =
    let burns = fuse_burns f.acts acts s f 0 w (omega arith) in
    let holds = fuse_holds acts s f 0 w in
    grind (arith, nat_tests, burns, holds)

-- and the answer of the step is the answer of the station then
pub answer_of_step : (s : ℕ) (w : Store) (f : Fuse) (acts : List Act) → answer_under_fuse f.acts acts ≡ answer_of (performed acts (begun s f w))
unfolding answer_under_fuse
answer_of_step s w f acts =
    let burns = fuse_burns f.acts acts s f 0 w (omega arith) in
    let holds = fuse_holds acts s f 0 w in
    grind (arith, nat_tests, burns, holds)
