pub mod Common
pub mod CallerLemmas
pub mod BufferLemmas
pub mod BuilderLemmas
pub mod CaseLemmas
pub mod CutLemmas
pub mod TextLemmas
pub mod WireLemmas
mod PlainLemmas
mod JsonLemmas
