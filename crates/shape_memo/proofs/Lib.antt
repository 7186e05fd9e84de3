pub mod TupleLemmas
