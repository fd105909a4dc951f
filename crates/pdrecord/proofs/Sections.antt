-- The sections that are written of files, one after the other.
use Rattle.std.proofs.Common.{◌≡◌, ℕ, Bool, true, false, ◌&&◌, ◌+◌, ◌<◌, List, [], ◌∷◌, ◌++◌, length, take, drop, get_or, Bor, Option, Some, None, IfSome, Ok, Err, IsErrAnd, Result, inl, inr, refl, ap, subst, sym, ◌∙◌, append_assoc, append-nil}
use Rattle.std.proofs.lemmas.List.{drop_more}
use Rattle.std.specs.Io.KnownBytes.{Appends}
use Rattle.pd_settings.specs.declared.settings.Settings.{Settings}
use Rattle.pd_protocol.specs.declared.faults.ServeFault.{ServeFault}
use Rattle.pd_protocol.specs.declared.faults.ServeFault.TheVariants as fault
use Rattle.pd_protocol.specs.ChosenOptions.{names_of}
use Rattle.pd_protocol.proofs.Known.{appends_then, appends_none}
use Rattle.pdrecord.specs.declared.record_options.RecordMode.{RecordMode}
use Rattle.pdrecord.specs.RecordProgram.{IsOutcome, IsStop, IsUnmade}
use Rattle.pdrecord.specs.ScriptInput.{script_in}
use Rattle.pdrecord.specs.declared.outcome.Outcome.{Outcome}
use Rattle.pdrecord.specs.declared.file_sections.FileFault.{FileFault}
use Rattle.pdrecord.specs.FileSections.{AreSections, EndsFiles, IsSection, Writes, WritesOne}

and_true : (b : Bool) → b ≡ (b && true)
and_true true = refl
and_true false = refl

and_on : (d f o b : Bool) → d ≡ (f && o) → (d && b) ≡ (f && (o && b))
and_on d true o b e = rw e refl
and_on d false o b e = rw e refl

one : (settings : Settings) (tr : RecordMode) (octets_in : List ℕ → Option (List ℕ)) (name : List ℕ) (b : Bool) (octets : List ℕ) → IsSection settings tr name (octets_in name) b octets → AreSections settings tr octets_in (name ∷ []) b octets
one settings tr octets_in name b octets s = (b, true, octets, [], s, (refl, refl), and_true b, sym (append-nil octets))

sections_then : (settings : Settings) (tr : RecordMode) (octets_in : List ℕ → Option (List ℕ)) (names others : List (List ℕ)) (d b : Bool) (octets more : List ℕ) → AreSections settings tr octets_in names d octets → AreSections settings tr octets_in others b more → AreSections settings tr octets_in (names ++ others) (d && b) (octets ++ more)
sections_then settings tr octets_in [] others d b octets more h k = rw (h.0, h.1) k
sections_then settings tr octets_in (n ∷ names) others d b octets more h k = (
  h.0,
  h.1 && b,
  h.2,
  h.3 ++ more,
  h.4,
  sections_then settings tr octets_in names others h.1 b h.3 more h.5 k,
  and_on d h.0 h.1 b h.6,
  ap (λ (o : List ℕ). o ++ more) h.7 ∙ append_assoc h.2 h.3 more,
)

-- a file more was written
pub writes_then : (settings : Settings) (tr : RecordMode) (octets_in : List ℕ → Option (List ℕ)) (names : List (List ℕ)) (name : List ℕ) (d b : Bool) (w v u : Option (List ℕ)) → Writes settings tr octets_in names (Ok d) w v → WritesOne settings tr octets_in name (Ok b) v u → Writes settings tr octets_in (names ++ name ∷ []) (Ok (d && b)) w u
writes_then settings tr octets_in names name d b w v u h k =
    (h.0 ++ k.0, sections_then settings tr octets_in names (name ∷ []) d b h.0 k.0 h.1 (one settings tr octets_in name b k.0 k.1), appends_then w v u h.0 k.0 h.2 k.2)

pub unmade_stops : (f : ServeFault) → IsUnmade f → IsStop f
unmade_stops fault.HistoryFull h = absurd h
unmade_stops fault.NoWorkers h = absurd h
unmade_stops fault.Differs h = tt
unmade_stops fault.BadCommand h = absurd h
unmade_stops fault.Truncated h = absurd h
unmade_stops fault.Read h = absurd h
unmade_stops fault.Write h = absurd h
unmade_stops fault.OutOfMemory h = tt

ends : (f : ServeFault) → IsStop f → EndsFiles f
ends fault.HistoryFull h = absurd h
ends fault.NoWorkers h = absurd h
ends fault.Differs h = tt
ends fault.BadCommand h = absurd h
ends fault.Truncated h = absurd h
ends fault.Read h = tt
ends fault.Write h = absurd h
ends fault.OutOfMemory h = tt

-- nothing was written before a fault
writes_none : (settings : Settings) (tr : RecordMode) (octets_in : List ℕ → Option (List ℕ)) (name : List ℕ) (f : ServeFault) (w : Option (List ℕ)) → IsStop f → WritesOne settings tr octets_in name (Err f) w w
writes_none settings tr octets_in name f w h = ([], ends f h, inl refl, appends_none w)

-- a file was written in part
writes_part : (settings : Settings) (tr : RecordMode) (octets_in : List ℕ → Option (List ℕ)) (name : List ℕ) (b : Bool) (octets : List ℕ) (w v : Option (List ℕ)) → IsSection settings tr name (octets_in name) b octets → (n : ℕ) × Appends w v (take n octets) → WritesOne settings tr octets_in name (Err fault.Write) w v
writes_part settings tr octets_in name b octets w v s a = (take a.0 octets, tt, inr (b, octets, a.0, s, refl), a.1)

-- the fault came at a file after some others: the octets of these, and what begins that file's
pub writes_cut : (settings : Settings) (tr : RecordMode) (octets_in : List ℕ → Option (List ℕ)) (first others : List (List ℕ)) (d : Bool) (stop : FileFault) (w v u : Option (List ℕ)) → Writes settings tr octets_in first (Ok d) w v → WritesOne settings tr octets_in stop.name.now (Err stop.fault) v u → Writes settings tr octets_in (first ++ stop.name.now ∷ others) (Err stop) w u
writes_cut settings tr octets_in first others d stop w v u h k =
    (first, others, d, h.0, k.0, k.1, refl, h.1, k.2, appends_then w v u h.0 k.0 h.2 k.3)

-- the outcome of the script that a file holds
pub comes_of : (settings : Settings) (tr : RecordMode) (octets_in left : Option (List ℕ)) (lines : Option (List (List ℕ))) (outcome : Outcome) → left ≡ octets_in → IfSome left (λ octets. lines ≡ script_in octets) → IsOutcome settings tr lines outcome → IfSome octets_in (λ all. IsOutcome settings tr (script_in all) outcome)
comes_of settings tr None left lines outcome e h o = tt
comes_of settings tr (Some all) None lines outcome e h o = absurd cc
comes_of settings tr (Some all) (Some octets) lines outcome e h o =
    let same : octets ≡ all = cc in
    subst (λ (l : Option (List (List ℕ))). IsOutcome settings tr l outcome) (h ∙ ap script_in same) o

-- the same of results that pass a fault on
pub writes_stopped : (settings : Settings) (tr : RecordMode) (octets_in : List ℕ → Option (List ℕ)) (name : List ℕ) (r : Result Bool ServeFault) (f : ServeFault) (w : Option (List ℕ)) → IsErrAnd r (λ x. x ≡ f) → IsStop f → WritesOne settings tr octets_in name r w w
writes_stopped settings tr octets_in name (Ok b) f w i h = absurd i
writes_stopped settings tr octets_in name (Err x) f w i h = writes_none settings tr octets_in name x w (subst IsStop (sym i) h)

pub writes_failed : (settings : Settings) (tr : RecordMode) (octets_in : List ℕ → Option (List ℕ)) (name : List ℕ) (b : Bool) (octets : List ℕ) (w v : Option (List ℕ)) (r : Result Bool ServeFault) (f : ServeFault) → IsErrAnd r (λ x. x ≡ f) → f ≡ fault.Write → IsSection settings tr name (octets_in name) b octets → (n : ℕ) × Appends w v (take n octets) → WritesOne settings tr octets_in name r w v
writes_failed settings tr octets_in name b octets w v (Ok x) f i e s a = absurd i
writes_failed settings tr octets_in name b octets w v (Err x) f i e s a = subst (λ (y : ServeFault). WritesOne settings tr octets_in name (Err y) w v) (sym (i ∙ e)) (writes_part settings tr octets_in name b octets w v s a)

-- so far what was written is of the first files, up to one
abbrev pub SoFar : Settings → RecordMode → (List ℕ → Option (List ℕ)) → List (Bor (List ℕ)) → ℕ → Bool → Option (List ℕ) → Option (List ℕ) → Type 0
SoFar settings tr octets_in all i d w v = (first : List (List ℕ)) × (names_of all ≡ first ++ names_of (drop i all)) × Writes settings tr octets_in first (Ok d) w v

next_name : (all : List (Bor (List ℕ))) (i : ℕ) (none : Bor (List ℕ)) (first : List (List ℕ)) → i < length all → names_of all ≡ first ++ names_of (drop i all) → names_of all ≡ first ++ (get_or all i none).now ∷ names_of (drop (i + 1) all)
next_name all i none first h e = e ∙ ap (λ (l : List (Bor (List ℕ))). first ++ names_of l) (drop_more all i none h)

-- the next file was written
pub so_on : (settings : Settings) (tr : RecordMode) (octets_in : List ℕ → Option (List ℕ)) (all : List (Bor (List ℕ))) (i : ℕ) (none : Bor (List ℕ)) (d b : Bool) (w v u : Option (List ℕ)) → i < length all → SoFar settings tr octets_in all i d w v → WritesOne settings tr octets_in (get_or all i none).now (Ok b) v u → SoFar settings tr octets_in all (i + 1) (d && b) w u
so_on settings tr octets_in all i none d b w v u h s k =
    let name = (get_or all i none).now in (
      s.0 ++ name ∷ [],
      next_name all i none s.0 h s.1 ∙ sym (append_assoc s.0 (name ∷ []) (names_of (drop (i + 1) all))),
      writes_then settings tr octets_in s.0 name d b w v u s.2 k,
    )

-- a fault came at the next file
pub so_ended : (settings : Settings) (tr : RecordMode) (octets_in : List ℕ → Option (List ℕ)) (all : List (Bor (List ℕ))) (i : ℕ) (none : Bor (List ℕ)) (d : Bool) (f : ServeFault) (w v u : Option (List ℕ)) → i < length all → SoFar settings tr octets_in all i d w v → WritesOne settings tr octets_in (get_or all i none).now (Err f) v u → Writes settings tr octets_in (names_of all) (Err (record { name = get_or all i none; fault = f })) w u
so_ended settings tr octets_in all i none d f w v u h s k =
    let cut = writes_cut settings tr octets_in s.0 (names_of (drop (i + 1) all)) d (record { name = get_or all i none; fault = f }) w v u s.2 k in
    subst (λ (l : List (List ℕ)). Writes settings tr octets_in l (Err (record { name = get_or all i none; fault = f })) w u) (sym (next_name all i none s.0 h s.1)) cut
