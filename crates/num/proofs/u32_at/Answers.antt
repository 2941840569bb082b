-- The bytes at the place say the number; where they are missing, there is none.
use Rattle.std.proofs.Common.{sym, ◌∙◌}
use Rattle.format.specs.Numbers.{u32_at}
use Rattle.num.specs.Read.{no_bytes, bytes_there, four_bytes}
use Rattle.num.proofs.u32_at.Goals as goal

pub returns-in_err-four : goal.returns-in_err-four
unfolding u32_at
returns-in_err-four c = c.from_residual.ensures ∙ sym (no_bytes c.args.s.now c.args.at 4 (c.in_err-four.ensures))

pub returns : goal.returns
unfolding u32_at
returns c =
    let w = bytes_there c.args.s.now c.args.at 4 c.in_ok-four.four (c.in_ok-four.ensures) in
    let n = c.from_le_bytes.ensures ∙ four_bytes c.in_ok-four.four w.0 in
    rw n (sym w.1)
