-- The bytes at the place say the number; where they are missing, there is none.
use Rattle.std.proofs.Common.{sym, ◌∙◌}
use Rattle.format.specs.Numbers.{u16_at}
use Rattle.num.specs.Read.{no_bytes, bytes_there, two_bytes}
use Rattle.num.proofs.u16_at.Goals as goal

pub returns-in_err-two : goal.returns-in_err-two
unfolding u16_at
returns-in_err-two c = c.from_residual.ensures ∙ sym (no_bytes c.args.s.now c.args.at 2 (c.in_err-two.ensures))

pub returns : goal.returns
unfolding u16_at
returns c =
    let w = bytes_there c.args.s.now c.args.at 2 c.in_ok-two.two (c.in_ok-two.ensures) in
    let n = c.from_le_bytes.ensures ∙ two_bytes c.in_ok-two.two w.0 in
    rw n (sym w.1)
