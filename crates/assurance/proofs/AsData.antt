-- The calls as data (Rattle.run.specs.Lists) lead to what the values of this crate's enum lead to. So what holds after
-- every list of these holds after every list of those.
use Rattle.std.proofs.Common.{◌≡◌, ℕ, ◌*◌, ◌≤◌, true, List, [], ◌∷◌, length, map, refl, sym, ap, ◌∙◌, subst}
use Rattle.journal.specs.Meaning.{Section}
use Rattle.journal.specs.declared.records.Kind.TheVariants as kind
use Rattle.presumption.specs.Answers.{Answers, Lawful}
use Rattle.station.specs.Sets.{members}
use Rattle.station.specs.declared.sets.StationSet.{StationSet}
use Rattle.run.specs.Calls.{named?}
use Rattle.run.specs.Lists as listed
use Rattle.run.specs.Settling.{settled, long_fuse}
use Rattle.run.specs.State.{State, fits, fresh}
use Rattle.assurance.proofs.Holds.{one_outcome}
use Rattle.assurance.specs.Outcomes.{Sound, Dropped, Lacks}
use Rattle.assurance.specs.Lists.{fuse, called, after_calls}
use Rattle.assurance.specs.declared.calls.Call.{Call}
use Rattle.assurance.specs.declared.calls.Call.TheVariants.{Open, Close, GiveUp, Chase, Reject, Inquire, Deliver, Lose, Cut, Restart, Settle}

-- The value of a call as listed.
pub value_of : listed.Call → Call
value_of (listed.Open c set) = Open c set
value_of (listed.Close r f k) = Close r (fuse f k)
value_of (listed.GiveUp r f k) = GiveUp r (fuse f k)
value_of (listed.Chase r f k) = Chase r (fuse f k)
value_of (listed.Reject r s f k) = Reject r s (fuse f k)
value_of (listed.Inquire r s f k) = Inquire r s (fuse f k)
value_of (listed.Deliver i copy f k) = Deliver i copy (fuse f k)
value_of (listed.Lose i) = Lose i
value_of (listed.Cut s k) = Cut s k
value_of (listed.Restart s) = Restart s
value_of listed.Settle = Settle

pub call_alike : (π : Answers) (c : listed.Call) (st : State) → listed.call π c st ≡ called π (value_of c) st
unfolding value_of
call_alike π (listed.Open c set) st = refl
call_alike π (listed.Close r f k) st = refl
call_alike π (listed.GiveUp r f k) st = refl
call_alike π (listed.Chase r f k) st = refl
call_alike π (listed.Reject r s f k) st = refl
call_alike π (listed.Inquire r s f k) st = refl
call_alike π (listed.Deliver i copy f k) st = refl
call_alike π (listed.Lose i) st = refl
call_alike π (listed.Cut s k) st = refl
call_alike π (listed.Restart s) st = refl
call_alike π listed.Settle st = refl

pub lists_alike : (π : Answers) (cs : List listed.Call) (st : State) → listed.after_calls π cs st ≡ after_calls π (map value_of cs) st
lists_alike π [] st = refl
lists_alike π (c ∷ cs) st = ap (λ z. listed.after_calls π cs z.state) (call_alike π c st) ∙ lists_alike π cs (called π (value_of c) st).state

pub sound_listed : (π : Answers) → Lawful π → (m : List Section) → fits m ≡ true → (cs : List listed.Call) → Sound π (listed.after_calls π cs (fresh m))
sound_listed π lawful m fit cs = subst (Sound π) (sym (lists_alike π cs (fresh m))) ((one_outcome π lawful m fit).0 (map value_of cs))

pub later_listed : (π : Answers) (st : State) → Sound π st → (more : List listed.Call) (r s t : ℕ) → Dropped st r s → Lacks kind.Commit (listed.after_calls π more st) r t
later_listed π st sound more r s t dropped =
    subst (λ (x : State). Lacks kind.Commit x r t) (sym (lists_alike π more st)) (sound.later (map value_of more) r s t dropped)

pub settle_listed : (π : Answers) (st : State) → listed.call π listed.Settle st ≡ called π Settle st
settle_listed π st = refl

pub four_each_listed : (π : Answers) → Lawful π → (m : List Section) → fits m ≡ true → (c : ℕ) (set : StationSet) → (named? c set (fresh m)).1 ≡ true → (settled π (listed.after_calls π (listed.Open c set ∷ listed.Close 0 long_fuse 0 ∷ []) (fresh m))).deliveries ≤ 4 * length (members set)
four_each_listed π lawful m fit = (one_outcome π lawful m fit).1
