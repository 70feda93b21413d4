-- Laws of the tokens and of the grammar.
pub mod TokenLaws
pub mod GrammarLaws
pub mod TermParts
