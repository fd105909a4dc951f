-- A text on its way from one to its mended form.
use Rattle.std.proofs.Common.{◌≡◌, ◌⊎◌, inl, inr, ℕ, true, false, List, [], ◌∷◌, None, refl, sym, ap, subst, ◌∙◌}
use Rattle.pd_text.specs.Edit.{edited, edit_refusal}
use Rattle.pd_text.specs.declared.line_edit.LineEdit.{LineEdit}
use Rattle.pd_settings.specs.declared.settings.Settings.{Settings}
use Rattle.pd_run.specs.Run.{verdict_of}
use Rattle.pd_run.specs.declared.verdict.Verdict.{Verdict}
use Rattle.pd_run.specs.declared.verdict.Verdict.TheVariants.{Pass, Fail}
use Rattle.pd_mend.specs.Mending.{after, takes_all_sent_packets_or_awaits_none, IsMend, IsNoPass, IsUnfinished}
use Rattle.pd_mend.specs.Mended.{IsFinished, IsMended, Leads, RefusesToMend}
use Rattle.pd_mend.specs.Inner.{IsNext, IsUnmendable, IsUnmade}
use Rattle.pd_mend.specs.declared.mend_error.MendError.{MendError}
use Rattle.pd_mend.specs.declared.mend_error.MendError.TheVariants.{Stopped, TooLarge, OutOfMemory}

-- mends lead to a text, which is the first one where that is finished
pub record OnTheWay (settings : Settings) (text : List (List ℕ)) (left : List (List ℕ)) : Type 0 where
  pub leads : Leads settings text left
  pub same : IsFinished settings text → left ≡ text

pub starts : (settings : Settings) (text left : List (List ℕ)) → left ≡ text → OnTheWay settings text left
starts settings text left e = record { leads = record { edits = []; mends = tt; left = e }; same = λ f. e }

no_pass : (verdict : Verdict) (n : ℕ) → IsNoPass verdict → verdict ≡ Pass n → ⊥
no_pass verdict n wrong e = subst IsNoPass e wrong

-- a text isn't finished and unfinished
not_both : (settings : Settings) (text : List (List ℕ)) → IsFinished settings text → IsUnfinished settings text → ⊥
not_both settings text f (inl wrong) = no_pass (verdict_of text settings) f.0.0 wrong f.0.1
not_both settings text f (inr leaves) = let both : true ≡ false = sym f.1 ∙ leaves in absurd cc

-- the first text isn't finished where the one that was reached isn't
unfinished : (settings : Settings) (text left : List (List ℕ)) → OnTheWay settings text left → IsUnfinished settings left → IsFinished settings text → ⊥
unfinished settings text left way u f =
    not_both settings text f (subst (IsUnfinished settings) (way.same f) u)

pub goes_on : (settings : Settings) (text left next : List (List ℕ)) → OnTheWay settings text left → IsNext settings left next → OnTheWay settings text next
goes_on settings text left next way step =
    let leads = way.leads in
    let at : left ≡ after leads.edits text = leads.left in
    record {
      leads = record {
        edits = step.edit ∷ leads.edits;
        mends = (
          subst (λ (t : List (List ℕ)). IsMend settings t step.edit) at step.mends,
          subst (λ (t : List (List ℕ)). edit_refusal t step.edit ≡ None) at step.allowed,
          leads.mends,
        );
        left = step.made ∙ ap (λ (t : List (List ℕ)). edited t step.edit) at;
      };
      same = λ f. absurd (unfinished settings text left way step.mends.unfinished f);
    }

pub ends : (settings : Settings) (text left : List (List ℕ)) (verdict : Verdict) (n : ℕ) → OnTheWay settings text left → verdict ≡ verdict_of left settings → verdict ≡ Pass n → takes_all_sent_packets_or_awaits_none settings left ≡ true → IsMended settings text left n
ends settings text left verdict n way e p takes = record { leads = way.leads; passes = sym e ∙ p; takes = takes }

pub is_stuck : (settings : Settings) (text left : List (List ℕ)) (verdict : Verdict) (refusal : MendError) → OnTheWay settings text left → verdict ≡ verdict_of left settings → IsUnfinished settings left → IsUnmendable left verdict refusal → RefusesToMend settings text refusal
is_stuck settings text left verdict (Stopped unmendable) way e wrong s = (
  subst (λ (t : List (List ℕ)). Leads settings text t) (sym s.0) way.leads,
  s.1 ∙ (e ∙ ap (λ (t : List (List ℕ)). verdict_of t settings) (sym s.0)),
  subst (IsUnfinished settings) (sym s.0) wrong,
)
is_stuck settings text left verdict TooLarge way e wrong s = absurd s
is_stuck settings text left verdict OutOfMemory way e wrong s = tt

pub is_unmade : (settings : Settings) (text left : List (List ℕ)) (refusal : MendError) → OnTheWay settings text left → IsUnmade settings left refusal → RefusesToMend settings text refusal
is_unmade settings text left (Stopped unmendable) way u = absurd u
is_unmade settings text left TooLarge way u = (left, u.0, way.leads, u.1, u.2)
is_unmade settings text left OutOfMemory way u = tt

-- a text that is finished is refused only if out of memory

pub spared_unmade : (settings : Settings) (text left : List (List ℕ)) (refusal : MendError) → OnTheWay settings text left → IsUnmade settings left refusal → IsFinished settings text → refusal ≡ OutOfMemory
spared_unmade settings text left (Stopped unmendable) way u f = absurd u
spared_unmade settings text left TooLarge way u f = absurd (unfinished settings text left way u.1.unfinished f)
spared_unmade settings text left OutOfMemory way u f = refl

pub spared_stuck : (settings : Settings) (text left : List (List ℕ)) (refusal : MendError) → OnTheWay settings text left → IsUnfinished settings left → IsFinished settings text → refusal ≡ OutOfMemory
spared_stuck settings text left refusal way u f = absurd (unfinished settings text left way u f)
