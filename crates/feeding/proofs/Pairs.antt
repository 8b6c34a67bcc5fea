-- The pair of two facts, of the crate below.
pub use Rattle.network.proofs.Pairs.{both}
