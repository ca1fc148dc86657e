-- For builders. State: appends, which are associative. Push: the loops of `str_ext`. Collect: the items of an iterator. Join:
-- texts behind a separator. Format: the pieces of a print.
pub mod State
pub mod Push
pub mod Collect
pub mod Join
pub mod Format
