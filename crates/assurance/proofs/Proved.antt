-- The claims, proved.
use Rattle.std.proofs.Common.{ℕ, List, sym, refl, ◌∙◌, [], ◌∷◌}
use Rattle.std.proofs.lemmas.Bool.{true≢false}
use Rattle.assurance.proofs.Ideal.{kC, Run, Presumption, Call, calls, open_revision, close}
use Rattle.assurance.proofs.Lasting.{world, head}
use Rattle.assurance.proofs.Sets.{mem_zero}
use Rattle.assurance.proofs.Claims.{Laws, Agreed, Known, Together, new}
use Rattle.assurance.proofs.SafeActs.{SafeSt}
use Rattle.assurance.proofs.Every.{full_calls, full_new, drp_calls, quiet_settle, room_all}
use Rattle.assurance.proofs.Loads.{made_settled}
use Rattle.assurance.proofs.Once.{once}
use Rattle.assurance.proofs.SafeRules.{has_legal, excl}
use Rattle.assurance.proofs.Invariant.{Inv, no_commit}

pub begin : (π : Presumption) (𝓛 : Laws π) → Inv π 𝓛 new
begin π 𝓛 =
    record {
      safe = record {
        msgs = tt;
        installs = λ r s h. absurd (true≢false (sym h ∙ mem_zero s));
        drops = λ r s h. absurd (true≢false (sym h ∙ mem_zero s));
        recs = λ s. (tt, tt);
        cos = λ s r. tt;
        subs = λ s r. tt;
      };
      tidy = λ s. record { fresh = λ r n. absurd (n tt); live = λ r n. absurd (n tt); calm = λ r. (refl, refl, refl); paid = λ o r _. refl; knows = λ _ r _ g. absurd (true≢false (sym g)); ended = λ _ r _ g. absurd (true≢false (sym g)); dropt = λ _ r _ g. absurd (true≢false (sym g)); dark = λ _. refl };
    }

agreed : (π : Presumption) (𝓛 : Laws π) (u : Run) → SafeSt π u → (r : ℕ) → Agreed u r
agreed π 𝓛 u h r =
    record {
      one = λ s t i d. excl π u h r (h.installs r s i).1 (h.drops r t d).1;
      recorded = λ s i. (h.installs r s i).1;
      prepared = λ s t i m. (has_legal π (world u) (u.plan r).coordinator kC r (head (world u) r).stable (h.recs (u.plan r).coordinator).0 (h.installs r s i).1).1.2 t m;
      never = λ s t d. no_commit π 𝓛 u h r t (h.drops r s d).1;
    }

known : (π : Presumption) (𝓛 : Laws π) (cs : List Call) → Known π (calls π cs new)
known π 𝓛 cs =
    let u = calls π cs new in
    let h = full_calls π 𝓛 cs new (full_new π 𝓛 (begin π 𝓛)) in
    record {
      agreed = agreed π 𝓛 u h.inv.safe;
      later = λ more r s t d. (agreed π 𝓛 (calls π more u) (full_calls π 𝓛 more u h).inv.safe r).never s t (drp_calls π 𝓛 r s more u h d);
      room = room_all π 𝓛 u h;
      settling = λ on. (quiet_settle π 𝓛 u h on, (made_settled π 𝓛 u).1);
    }

pub together : Together
together π 𝓛 = record { always = known π 𝓛; once = λ c all ok. once π 𝓛 c all ok (full_calls π 𝓛 (open_revision c all ∷ (close 0 255 0 ∷ [])) new (full_new π 𝓛 (begin π 𝓛))).inv }
