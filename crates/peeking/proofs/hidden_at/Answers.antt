-- The number of the three bytes decides.
use Rattle.std.specs.Prelude.{◌≡◌, ◌+◌, ◌*◌}
use Rattle.std.proofs.Common.{ap, ◌∙◌, arith}
use Rattle.peeking.specs.Peeking.{onward, byte_at, hidden_by}
use Rattle.peeking.proofs.Numbers.{byte_here}
use Rattle.peeking.proofs.hidden_at.Goals as goal

pub returns : goal.returns
returns c =
    let s = c.args.s.now in
    let at = c.args.at in
    let h = c.bytes_at.ensures in
    let e : c.from_be_bytes.result ≡ 65536 * byte_at s at + 256 * byte_at s (onward s at 1) + byte_at s (onward s at 2) =
    omega (arith, h 0 (omega arith), h 1 (omega arith), h 2 (omega arith), byte_here s at, c.from_be_bytes.ensures) in
    c.hidden.ensures ∙ ap hidden_by e
