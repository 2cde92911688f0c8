-- The two invariants together, and the steps that keep both.
use Rattle.std.proofs.Common.{◌≡◌, ℕ, true, false, List, ◌∷◌, sym, refl, ◌∙◌, subst, inl, inr, arith}
use Rattle.std.specs.List.{AllByRecursion}
use Rattle.std.proofs.lemmas.Bool.Decides.{nat_tests}
use Rattle.std.proofs.lemmas.Bool.{cond_both, cases_Bool, true≢false}
use Rattle.assurance.proofs.Ideal.{Kind, kI, kC, kA, kp, Record, has, argument_of, CoordinatorEntry, Collecting, Announcing, MessageKind, PREPARE, YES, NO, COMMIT, ABORT, ACK, INQUIRY, Message, Run, Presumption, with_post, letter, upon_inquire, handed, upon_open, hand_first, nudge, urged, asked, commit, abort}
use Rattle.assurance.proofs.Lasting.{No, Doom, world, head, Abort, Legal, RecLegal}
use Rattle.assurance.proofs.SafeActs.{SafeSt}
use Rattle.assurance.proofs.Claims.{Laws}
use Rattle.assurance.proofs.SafeRules.{has_legal, safe_inquiry, safe_ack, safe_prepare, safe_give_up, safe_no, safe_outcome}
use Rattle.assurance.proofs.SafeCalls.{safe_yes, safe_chase, safe_inquire}
use Rattle.assurance.proofs.Tidy.{Tidy, tidy_did, Carries}
use Rattle.assurance.proofs.Rules.{Rule, For, Did, did_handed, did_inquire, did_nudge}

module _ (π : Presumption) (𝓛 : Laws π) where
  pub record Inv (st : Run) : Type 0 where
    pub safe : SafeSt π st
    pub tidy : Tidy π 𝓛 st

  -- a step of a rule that is safe
  pub inv_did : (st : Run) (r s t f k : ℕ) (P : Rule → Type 0) (v : Run) → (st.station s).power ≡ true → SafeSt π v → Did π st r s t f k P v → Inv st → Inv v
  inv_did st r s t f k P v on safe d h = record { safe = safe; tidy = tidy_did π 𝓛 st r s t f k P v on h.safe d h.tidy }

  pub safe_handed : (m : MessageKind) (r s t f k : ℕ) (st : Run) → (st.station s).power ≡ true → Inv st → Legal π (world st) (letter m r t s) → SafeSt π (handed π m r s t f k st)
  safe_handed PREPARE r s t f k st on h l = safe_prepare π 𝓛 r s t ((st.station s).subordinates r) f k st h.safe (h.tidy s) on l refl
  safe_handed YES r s t f k st on h l = safe_yes π 𝓛 r s t ((st.station s).coordinators r) f k st h.safe l.1 refl
  safe_handed NO r s t f k st on h l = safe_no π 𝓛 r s t ((st.station s).coordinators r) f k st h.safe (h.tidy s) l refl
  safe_handed COMMIT r s t f k st on h l = safe_outcome π 𝓛 commit r s t ((st.station s).subordinates r) f k st h.safe (h.tidy s) on l.0 l.1 refl
  safe_handed ABORT r s t f k st on h l = safe_outcome π 𝓛 abort r s t ((st.station s).subordinates r) f k st h.safe (h.tidy s) on l.0 l.1 refl
  safe_handed ACK r s t f k st on h l = safe_ack π 𝓛 r s t ((st.station s).coordinators r) f k st h.safe l.1 refl
  safe_handed INQUIRY r s t f k st on h l = safe_inquiry π 𝓛 r s t ((st.station s).coordinators r) f k st h.safe (h.tidy s) on l refl

  pub safe_nudge : (r s : ℕ) (st : Run) → Inv st → SafeSt π (nudge π r s ((st.station s).coordinators r) st)
  safe_nudge r s st h = go ((st.station s).coordinators r) refl
    where
      go : (e : CoordinatorEntry) → (st.station s).coordinators r ≡ e → SafeSt π (nudge π r s e st)
      go (Collecting all ys) e = safe_give_up π 𝓛 r s (Collecting all ys) 255 0 st h.safe (h.tidy s) e
      go (Announcing o w) e = safe_chase π 𝓛 r s (Announcing o w) 255 0 st h.safe e
      go x e = h.safe

  pub inv_post : (st : Run) (p : List Message) → Inv st → AllByRecursion (Legal π (world st)) p → Inv (with_post p st)
  inv_post st p h a = record { safe = record { msgs = a; installs = h.safe.installs; drops = h.safe.drops; recs = h.safe.recs; cos = h.safe.cos; subs = h.safe.subs }; tidy = h.tidy }

  -- what settling is made of
  pub inv_first : (m : Message) (ms : List Message) (st : Run) → m ∷ ms ≡ st.post → Inv st → Inv (hand_first π m (with_post ms st))
  inv_first m ms st e h =
      let a : AllByRecursion (Legal π (world st)) (m ∷ ms) = subst (AllByRecursion (Legal π (world st))) (sym e) h.safe.msgs in
      let h' : Inv (with_post ms st) = inv_post st ms h a.1 in
      cond_both (st.station m.receiver).power (handed π m.kind m.revision m.receiver m.sender 255 0 (with_post ms st)) (with_post ms st) Inv
      (λ on. inv_did (with_post ms st) m.revision m.receiver m.sender 255 0 (λ u. For π u m.kind) _ on (safe_handed m.kind m.revision m.receiver m.sender 255 0 (with_post ms st) on h' a.0) (did_handed π m.kind m.revision m.receiver m.sender 255 0 (with_post ms st)) h')
      (λ _. h')

  pub inv_asked : (r s : ℕ) (st : Run) → Inv st → Inv (asked π r s st)
  inv_asked r s st h =
      cond_both (st.station s).power (upon_inquire π r s ((st.station s).subordinates r) 255 0 st) st Inv
      (λ on. inv_did st r s s 255 0 _ _ on (safe_inquire π 𝓛 r s ((st.station s).subordinates r) 255 0 st h.safe refl) (did_inquire π r s 255 0 st ((st.station s).subordinates r) refl) h)
      (λ _. h)

  pub inv_urged : (r : ℕ) (st : Run) → Inv st → Inv (urged π r st)
  inv_urged r st h =
      let s = (st.plan r).coordinator in
      cond_both (st.station s).power (nudge π r s ((st.station s).coordinators r) st) st Inv
      (λ on. inv_did st r s s 255 0 _ _ on (safe_nudge r s st h) (did_nudge π r s st ((st.station s).coordinators r) refl) h)
      (λ _. h)

  -- open: nothing is known of the new revision yet
  pub none_yet : (st : Run) → SafeSt π st → (s : ℕ) (k : Kind) → No k st.count (st.station s)
  none_yet st h s k = (
    elim (cases_Bool (has k st.count (st.station s).stable)) [ inl e ↦ absurd (omega (arith, (has_legal π (world st) s k st.count (st.station s).stable (h.recs s).0 e).0)) | inr e ↦ e ],
    elim (cases_Bool (has k st.count (st.station s).loose)) [ inl e ↦ absurd (omega (arith, (has_legal π (world st) s k st.count (st.station s).loose (h.recs s).1 e).0)) | inr e ↦ e ],
  )

  pub tidy_open : (c all : ℕ) (st : Run) → SafeSt π st → Tidy π 𝓛 st → Tidy π 𝓛 (upon_open c all st)
  tidy_open c all st sf h s =
      let np = none_yet st sf s kp in
      let nC = none_yet st sf s kC in
      let nI = none_yet st sf s kI in
      record {
        fresh = λ q n. grind (arith, nat_tests, (h s).fresh q);
        live = λ q n. grind (arith, nat_tests, (h s).live q);
        calm = (h s).calm;
        paid = (h s).paid;
        knows = λ p q i g. grind (arith, nat_tests, (h s).knows p q);
        ended = λ p q i g t m k. grind (arith, nat_tests, (h s).ended p q);
        dropt = λ p q i g z t m k. grind (arith, nat_tests, (h s).dropt p q);
        dark = (h s).dark;
      }

  pub args_of : (s : ℕ) (st : Run) → SafeSt π st → (k : Kind) (q : ℕ) → Carries k → has k q (st.station s).stable ≡ true → argument_of k q (st.station s).stable ≡ (st.plan q).names
  args_of s st h kI q l e = (has_legal π (world st) s kI q (st.station s).stable (h.recs s).0 e).1.1
  args_of s st h kC q l e = (has_legal π (world st) s kC q (st.station s).stable (h.recs s).0 e).1.1
  args_of s st h kA q l e = (has_legal π (world st) s kA q (st.station s).stable (h.recs s).0 e).1.1
  args_of s st h k q l e = absurd l

  -- what is surely aborted has no commit record anywhere, stable or not
  pub no_commit : (st : Run) → SafeSt π st → (r s : ℕ) → Abort (world st) r → No kC r (st.station s)
  no_commit st h r s a = (none_in (st.station s).stable (h.recs s).0 (λ d e. rw e d.0.0), none_in (st.station s).loose (h.recs s).1 (λ d e. rw e d.0.1))
    where
      none_in : (l : List Record) → AllByRecursion (RecLegal π (world st) s) l → (Doom r (head (world st) r) → s ≡ (st.plan r).coordinator → has kC r l ≡ false) → has kC r l ≡ false
      none_in l k clean =
          elim (cases_Bool (has kC r l)) [
            | inl e ↦ (let q = has_legal π (world st) s kC r l k e in
                elim a [ inl d ↦ clean d q.1.0 | inr v ↦ absurd (true≢false (sym (q.1.2 v.0 v.1) ∙ v.2.0.0)) ])
            | inr e ↦ e
          ]
