mod BracketLemmas
mod TreeLemmas
