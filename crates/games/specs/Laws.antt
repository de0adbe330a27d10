-- Lemmas: what the proofs of the games' laws cite, and what they cite in turn. No contract rests on the words of these.
pub mod AmountLaws
pub mod Odious
pub mod Pairs
pub mod RowLaws
pub mod RulerLaws
pub mod Sums
pub mod TakeLaws
pub mod TakeValueLaws
pub mod TurtlesLaws
pub mod TwinsLaws
