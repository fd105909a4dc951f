-- The definitions of the programs' arguments, of their input and commands, and of the text that is written.
pub mod ChosenOptions
pub mod Commands
pub mod Input
pub mod LinePieces
pub mod ProgramFaults
pub mod OptionTable
pub mod CommandLines
pub mod WriterOutput
pub mod ServeFaults
pub mod SettingsText
pub mod NextLines
pub mod NextCommand
pub mod Verdicts
pub mod Words
