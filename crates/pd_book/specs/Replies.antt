-- The reply of each call, and the history after it.
use Rattle.std.specs.Prelude.{◌≡◌, ◌≢◌, ℕ, List, Option, Some, None, IsSome, IsSomeAnd, Result, MatchResult}
use Rattle.pd_text.specs.declared.line_edit.LineEdit.{LineEdit}
use Rattle.pd_settings.specs.Keys.{key_named}
use Rattle.pd_settings.specs.declared.values.Value.{Value}
use Rattle.pd_book.specs.declared.act.Act.TheVariants.{Add, Edit, Remove, Set, Finish, Abandon}
use Rattle.pd_book.specs.declared.act.Ruling.{Ruling}
use Rattle.pd_book.specs.declared.faults.BookFault.{BookFault}
use Rattle.pd_book.specs.declared.faults.FinishFault.{FinishFault}
use Rattle.pd_book.specs.declared.faults.FinishFault.TheVariants.{NoSuchJob}
use Rattle.pd_track.specs.declared.task.Task.{Task}
use Rattle.pd_book.specs.Acts.{job, next, ruling}
use Rattle.pd_track.specs.Reuse.{JobView}
use Rattle.pd_book.specs.History.{History, handed_task, after_act, after_start}
use Rattle.pd_book.specs.Refusals.{add_refusal, edit_refusal, remove_refusal, set_refusal, start_refusal, next_job, fault_of, finish_fault}

-- a change: where it isn't refused its act is recorded, else the reply is the refusal, or out of memory
abbrev pub GivesChange : Option BookFault → History → Result (Unit {0}) BookFault → Type 0 → History → Type 0
GivesChange refusal old reply Recorded new =
    MatchResult reply (λ _. (refusal ≡ None) × Recorded) (λ fault. (fault ≡ fault_of refusal) × (new ≡ old))

-- an add of this text under this name
abbrev pub GivesAdd : History → List ℕ → List (List ℕ) → Result (Unit {0}) BookFault → History → Type 0
GivesAdd old name text reply new = GivesChange (add_refusal old name) old reply (new ≡ after_act old (Add name text)) new

-- this edit of the script of this name
abbrev pub GivesEdit : History → List ℕ → LineEdit → Result (Unit {0}) BookFault → History → Type 0
GivesEdit old name edit reply new = GivesChange (edit_refusal old name edit) old reply (new ≡ after_act old (Edit name edit)) new

-- a remove of the script of this name
abbrev pub GivesRemove : History → List ℕ → Result (Unit {0}) BookFault → History → Type 0
GivesRemove old name reply new = GivesChange (remove_refusal old name) old reply (new ≡ after_act old (Remove name)) new

-- a set of the setting of this name
abbrev pub GivesSet : History → List ℕ → Value → Result (Unit {0}) BookFault → History → Type 0
GivesSet old name value reply new =
    GivesChange (set_refusal old name value) old reply (IsSomeAnd (key_named name) (λ key. new ≡ after_act old (Set key value))) new

-- a start: the job of the first script that waits, or none
abbrev pub GivesStart : History → Result (Option JobView) BookFault → History → Type 0
GivesStart old reply new =
    MatchResult reply
    (λ given. (start_refusal old ≡ None) × (handed_task given ≡ next_job old) × (new ≡ after_start old (handed_task given)))
    (λ fault. (fault ≡ fault_of (start_refusal old)) × IsSome (next old.past) × (new ≡ old))

-- a finish with the result of this task
abbrev pub GivesFinish : History → Task → Result Ruling FinishFault → History → Type 0
GivesFinish old done reply new =
    MatchResult reply
    (λ ruled. (job old.opening old.past done.number ≡ Some done) × (ruled ≡ ruling old.past done) × (new ≡ after_act old (Finish done.number ruled)))
    (λ fault. (job old.opening old.past done.number ≢ Some done) × (fault ≡ finish_fault (job old.opening old.past done.number)) × (new ≡ old))

-- an abandonment of the job of this number
abbrev pub GivesAbandon : History → ℕ → Result (Unit {0}) FinishFault → History → Type 0
GivesAbandon old number reply new =
    MatchResult reply
    (λ _. IsSome (job old.opening old.past number) × (new ≡ after_act old (Abandon number)))
    (λ fault. (fault ≡ NoSuchJob) × (job old.opening old.past number ≡ None) × (new ≡ old))
