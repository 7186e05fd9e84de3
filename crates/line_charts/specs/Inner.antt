-- Words between one function and the next; no public clause cites them.
pub mod Keyed
pub mod Reaches
pub mod Stages
pub mod Hosts
pub mod KeyedHosts
