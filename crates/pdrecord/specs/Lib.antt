-- The definitions of the program that records.
pub mod RecordProgram
pub mod FileSections
pub mod RecordArguments
pub mod ScriptInput
pub mod Written
pub mod Inner
