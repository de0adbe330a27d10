-- Lemmas: what the proofs of the games' laws cite, and what they cite in turn. No contract rests on the words of these.
pub mod Blocks
pub mod MixLaws
pub mod PileLaws
pub mod ProductLaws
