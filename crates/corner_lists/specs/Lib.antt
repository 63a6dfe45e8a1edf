pub mod KeyLists
pub mod ChainKeys
