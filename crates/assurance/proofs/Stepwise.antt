-- One call more of a list.
use Rattle.std.proofs.Common.{◌≡◌, ℕ, ◌+◌, ◌<◌, List, [], ◌∷◌, ◌++◌, length, get_or, take, IfOk, Result, sym, refl, ap, ◌∙◌, subst}
use Rattle.std.proofs.lemmas.List.{map_push, take_more}
use Rattle.presumption.specs.Answers.{Answers}
use Rattle.run.specs.Answers.{Answer}
use Rattle.run.specs.Calls.{Reply, reply}
use Rattle.run.specs.Runs.{Shown, LeadsTo}
use Rattle.run.specs.State.{State}
use Rattle.run.specs.declared.refusals.Refusal.{Refusal}
use Rattle.assurance.specs.Lists.{called, after_calls, answers_of}
use Rattle.assurance.specs.Played.{AllSuit, AllPerformed}
use Rattle.assurance.specs.Values.{reported, Suits}
use Rattle.assurance.specs.declared.calls.Call.{Call}
use Rattle.assurance.specs.declared.calls.Value.{Value}

module _ (π : Answers) (c : Call) (x : Result Value Refusal) where
  after_one : (cs : List Call) (st : State) → after_calls π (cs ++ c ∷ []) st ≡ (called π c (after_calls π cs st)).state
  after_one [] st = refl
  after_one (b ∷ cs) st = after_one cs (called π b st).state

  answers_one : (cs : List Call) (st : State) → answers_of π (cs ++ c ∷ []) st ≡ answers_of π cs st ++ (called π c (after_calls π cs st)).answer ∷ []
  answers_one [] st = refl
  answers_one (b ∷ cs) st = ap (λ (l : List Answer). (called π b st).answer ∷ l) (answers_one cs (called π b st).state)

  suits_one : (cs : List Call) (st : State) (xs : List (Result Value Refusal)) → AllSuit π cs st xs → IfOk x (Suits c (after_calls π cs st)) → AllSuit π (cs ++ c ∷ []) st (xs ++ x ∷ [])
  suits_one [] st [] a s = (s, tt)
  suits_one [] st (y ∷ xs) a s = elim a [ ]
  suits_one (b ∷ cs) st [] a s = elim a [ ]
  suits_one (b ∷ cs) st (y ∷ xs) a s = (a.0, suits_one cs (called π b st).state xs a.1 s)

module _ {P : Type 0} (asked : P → Answers) {run u v : Shown P} {xs : List (Result Value Refusal)} where
  -- the next call of a list
  pub performed_next : (cs : List Call) (i : ℕ) (d : Call) (x : Result Value Refusal) → i < length cs → AllPerformed asked (take i cs) run u xs
      → LeadsTo (called (asked u.presumption) (get_or cs i d)) u (reported x) v → IfOk x (Suits (get_or cs i d) u.state)
      → AllPerformed asked (take (i + 1) cs) run v (xs ++ x ∷ [])
  performed_next cs i d x l p e s =
      let c = get_or cs i d in
      let π = asked run.presumption in
      let done = take i cs in
      let at : reply (reported x) v.state ≡ called π c (after_calls π done run.state) = e.reply ∙ (λ j. called (asked (p.presumption j)) c (p.state j)) in
      rw (take_more cs i d l)
      (record {
        presumption = e.presumes ∙ p.presumption;
        state = ap (λ (z : Reply). z.state) at ∙ sym (after_one π c x done run.state);
        answers = map_push reported xs x ∙ (ap (λ (l : List Answer). l ++ reported x ∷ []) p.answers ∙ (ap (λ (z : Reply). answers_of π done run.state ++ z.answer ∷ []) at ∙ sym (answers_one π c x done run.state)));
        suits = suits_one π c x done run.state xs p.suits (subst (λ (z : State). IfOk x (Suits c z)) p.state s);
      })
