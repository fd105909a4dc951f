-- One option further in a list of options.
use Rattle.std.proofs.Common.{◌≡◌, refl, sym, ap, ◌∙◌, ℕ, ◌+◌, ◌<◌, Bool, true, false, ◌||◌, List, ◌∷◌, drop, get_or, length, Option, Some, None}
use Rattle.std.specs.Option.{option_or}
use Rattle.std.proofs.lemmas.List.{drop_more}
use Rattle.pd_seg.specs.declared.option_list.SegOption.{SegOption}
use Rattle.pd_seg.specs.declared.option_list.SegOption.TheVariants.{Mss, Wscale, SackOk, Nop, Eol, Timestamp, Sack}
use Rattle.pd_host.specs.Handshake.{offered_mss, offered_count, offers_sack}
use Rattle.pd_host.specs.Steps.{with_option}
use Rattle.pd_host.specs.declared.syn_options.SynOptions.{SynOptions}

-- what was offered so far, and what is left offers
abbrev pub in_all : SynOptions → List SegOption → SynOptions
in_all f options = record {
  mss = option_or f.mss (offered_mss options);
  count = option_or f.count (offered_count options);
  sack = f.sack || offers_sack options;
}

first_stays : {X : Type 0} (o p : Option X) (x : X) → option_or (option_or o (Some x)) p ≡ option_or o (Some x)
first_stays None p x = refl
first_stays (Some y) p x = refl

or_true : (b : Bool) → (b || true) ≡ true
or_true true = refl
or_true false = refl

one_more : (f : SynOptions) (o : SegOption) (rest : List SegOption) → (o ≡ Eol → ⊥) → in_all (with_option f o) rest ≡ in_all f (o ∷ rest)
one_more f (Mss x) rest not_end = ap (λ (m : Option ℕ). record { mss = m; count = option_or f.count (offered_count rest); sack = f.sack || offers_sack rest }) (first_stays f.mss (offered_mss rest) x)
one_more f (Wscale x) rest not_end = ap (λ (m : Option ℕ). record { mss = option_or f.mss (offered_mss rest); count = m; sack = f.sack || offers_sack rest }) (first_stays f.count (offered_count rest) x)
one_more f SackOk rest not_end = ap (λ (b : Bool). record { mss = option_or f.mss (offered_mss rest); count = option_or f.count (offered_count rest); sack = b }) (sym (or_true f.sack))
one_more f Nop rest not_end = refl
one_more f Eol rest not_end = absurd (not_end refl)
one_more f (Timestamp x y) rest not_end = refl
one_more f (Sack x) rest not_end = refl

-- the option at i comes first in what is left
at_option : (f : SynOptions) (options : List SegOption) (i : ℕ) (o : SegOption) (whole : SynOptions)
    → i < length options → o ≡ get_or options i o → in_all f (drop i options) ≡ whole
    → in_all f (o ∷ drop (i + 1) options) ≡ whole
at_option f options i o whole within here same =
    sym (ap (in_all f) (drop_more options i o within ∙ ap (λ (x : SegOption). x ∷ drop (i + 1) options) (sym here))) ∙ same

-- an option further
pub one_further : (f : SynOptions) (options : List SegOption) (i : ℕ) (o : SegOption) (whole : SynOptions)
    → i < length options → o ≡ get_or options i o → (o ≡ Eol → ⊥) → in_all f (drop i options) ≡ whole
    → in_all (with_option f o) (drop (i + 1) options) ≡ whole
one_further f options i o whole within here not_end same =
    one_more f o (drop (i + 1) options) not_end ∙ at_option f options i o whole within here same
