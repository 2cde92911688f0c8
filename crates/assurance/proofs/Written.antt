-- No write of a step that a call asks for is refused.
use Rattle.std.proofs.Common.{◌≡◌, ℕ, zero, suc, ◌<◌, ◌≤◌, List, [], ◌∷◌, length, Some, None, Option, refl, subst}
use Rattle.std.specs.List.{AllByRecursion, slice_get}
use Rattle.std.specs.Option.{option_map}
use Rattle.presumption.specs.Answers.{Answers, Lawful}
use Rattle.run.specs.Calls.{coordinator_of, coordinator_entry}
use Rattle.assurance.specs.declared.calls.Call.{Call}
use Rattle.assurance.specs.declared.calls.Call.TheVariants.{Close, GiveUp, Chase, Reject, Inquire, Deliver}
use Rattle.run.specs.State.{State}
use Rattle.stations.specs.Stations.{subordinate_at}
use Rattle.station.specs.Acts.{acts}
use Rattle.station.specs.Coordinator.{close_move, give_up_move, chase_move}
use Rattle.station.specs.Subordinate.{reject_move, inquire_move}
use Rattle.station.specs.declared.coordinator.CoordinatorEntry.{CoordinatorEntry}
use Rattle.station.specs.declared.coordinator.CoordinatorEntry.TheVariants as coordinator
use Rattle.station.specs.declared.messages.Message.{Message}
use Rattle.station.specs.declared.subordinate.SubordinateEntry.{SubordinateEntry}
use Rattle.station.specs.declared.subordinate.SubordinateEntry.TheVariants as subordinate
use Rattle.assurance.specs.Writes.{Accepted, Due, due_of, due_to, due, Unrefused}
use Rattle.assurance.proofs.Ideal as ideal
use Rattle.assurance.proofs.Lasting.{world, Legal}
use Rattle.assurance.proofs.Ranges.{NearM}
use Rattle.assurance.proofs.SafeRules.{has_legal}
use Rattle.assurance.proofs.View.{view}
use Rattle.assurance.proofs.Moves.{presumes, Good}
use Rattle.assurance.proofs.Heard.{co_legal, sub_legal, heard_view, closes, gives_up_open, gives_up, chases, rejects, inquires}

module _ (π : Answers) (𝓗 : Lawful π) (n : ℕ) (two : 2 ≤ n) (eight : n ≤ 8) (st : State) (g : Good π 𝓗 n two eight st) where
  abbrev V : ideal.Run
  V = view n st

  abbrev Q : ideal.Presumption
  Q = presumes π n

  -- what is due, if anything is, is accepted
  abbrev Done : Option Due → Type 0
  Done None = Unit {0}
  Done (Some d) = Accepted d.station (acts π d.station d.revision d.step) st.store

  module _ (r : ℕ) where
    abbrev s : ℕ
    s = coordinator_of r st

    abbrev here : coordinator_of r st < n
    here = g.full.near.plans r

    close_done : (e : CoordinatorEntry) → coordinator_entry r st ≡ e → Done (option_map (due_of s r) (close_move e))
    close_done (coordinator.Open x) q = (closes π 𝓗 n two eight st g r s 0 0 here (co_legal π 𝓗 n two eight st g s r (coordinator.Open x) q).0 x q).1
    close_done e q = tt

    give_up_done : (e : CoordinatorEntry) → coordinator_entry r st ≡ e → Done (option_map (due_of s r) (give_up_move π e))
    give_up_done (coordinator.Open x) q = (gives_up_open π 𝓗 n two eight st g r s 0 0 here (co_legal π 𝓗 n two eight st g s r (coordinator.Open x) q).0 x q).1
    give_up_done (coordinator.Collecting x y) q = (gives_up π 𝓗 n two eight st g r s 0 0 here (co_legal π 𝓗 n two eight st g s r (coordinator.Collecting x y) q).0 x y q).1
    give_up_done e q = tt

    chase_done : (e : CoordinatorEntry) → coordinator_entry r st ≡ e → Done (option_map (due_of s r) (chase_move e))
    chase_done (coordinator.Announcing o w) q = (chases π 𝓗 n two eight st g r s 0 0 here (co_legal π 𝓗 n two eight st g s r (coordinator.Announcing o w) q).0 o w q).1
    chase_done e q = tt

  module _ (r s : ℕ) where
    reject_done : (e : SubordinateEntry) → subordinate_at st.stations s r ≡ e → Done (option_map (due_of s r) (reject_move e))
    reject_done (subordinate.Active c) q =
        let l = sub_legal π 𝓗 n two eight st g s r (subordinate.Active c) q in
        (rejects π 𝓗 n two eight st g r s 0 0 (g.full.near.sets r s l.2) l.0 c q).1
    reject_done e q = tt

    inquire_done : (e : SubordinateEntry) → subordinate_at st.stations s r ≡ e → Done (option_map (due_of s r) (inquire_move e))
    inquire_done (subordinate.Prepared c) q =
        let l = sub_legal π 𝓗 n two eight st g s r (subordinate.Prepared c) q in
        let p = has_legal Q (world V) s ideal.kp r (V.station s).stable (g.full.inv.safe.recs s).0 l.2 in
        (inquires π 𝓗 n two eight st g r s 0 0 (g.full.near.sets r s p.1.1) l.0 c q).1
    inquire_done e q = tt

  -- a message that waits, of stations that are there about a revision that was opened
  heard_done : (m : Message) → m.receiver < n → m.sender < n → m.revision < length st.store.log → Done (Some (due_to π st m))
  heard_done m a b c = (heard_view π 𝓗 n two eight st g m.revision m.receiver m.sender 0 0 a c m.kind b).1

  post_done : (p : List Message) (i : ℕ) → AllByRecursion (NearM n) p → AllByRecursion (Legal Q (world V)) p → Done (option_map (due_to π st) (slice_get p i))
  post_done [] i a b = tt
  post_done (m ∷ p) zero a b = heard_done m a.0.1 a.0.0 b.0.0
  post_done (m ∷ p) (suc i) a b = post_done p i a.1 b.1

  pub unrefused : (c : Call) → Unrefused π st c
  unrefused c d e = subst Done e (go c)
    where
      go : (c : Call) → Done (due π c st)
      go (Close r f) = close_done r (coordinator_entry r st) refl
      go (GiveUp r f) = give_up_done r (coordinator_entry r st) refl
      go (Chase r f) = chase_done r (coordinator_entry r st) refl
      go (Reject r s f) = reject_done r s (subordinate_at st.stations s r) refl
      go (Inquire r s f) = inquire_done r s (subordinate_at st.stations s r) refl
      go (Deliver i copy f) = post_done st.store.post i g.full.near.posts g.full.inv.safe.msgs
      go e = tt
