-- What is out are the count lines of the tokens so far, and the other tokens are left.
use Rattle.std.proofs.Common.{◌≡◌, ◌++◌, encode_utf8_all, map}
use Rattle.std.specs.List.{flat_map}
use Rattle.std.specs.String.{string_bytes}
use Rattle.smol_tokens_core.specs.Counts.{count_line}
use Rattle.smol_tokens_core.specs.Tally.{by_text}
use Rattle.smol_tokens_core.proofs.tokens.write_counts.Given as goal

abbrev pub invariant-loop-token : goal.invariant-loop-token
invariant-loop-token g l =
    let seen = map (λ e. (e.0.now.text, e.1.now)) l.yielded in
    (string_bytes l.out ≡ encode_utf8_all (flat_map count_line seen)) × (l.tally ≡ seen ++ by_text l.token-iterator)
