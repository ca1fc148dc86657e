-- The shared text that a value on the heap holds, as `src/shared.rt` names it: its type and its bytes.
pub use Rattle.std.specs.declared.rc.RcStr.{RcStr as SharedText}
pub use Rattle.std.specs.Rc.{rc_str_bytes as shared_bytes}
