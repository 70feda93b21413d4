-- Lemmas on what a command says: the command line, the source, what is compiled, and what is printed.
pub mod CommandLines
pub mod Unambiguous
pub mod Compilations
pub mod FileNames
pub mod Sentences
pub mod FoundSources
pub mod Printed
pub mod Answered
pub mod Promises
pub mod language
