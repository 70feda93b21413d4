pub mod NameLaws
pub mod TableLaws
pub mod CountLaws
pub mod ImportLaws
pub mod LibraryLaws
pub mod WordLaws
pub mod AnswerLaws
pub mod AgreementLaws
