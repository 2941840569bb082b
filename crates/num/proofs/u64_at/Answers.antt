-- The bytes at the place say the number; where they are missing, there is none.
use Rattle.std.proofs.Common.{sym, ◌∙◌}
use Rattle.format.specs.Numbers.{u64_at}
use Rattle.num.specs.Read.{no_bytes, bytes_there, eight_bytes}
use Rattle.num.proofs.u64_at.Goals as goal

pub returns-in_err-eight : goal.returns-in_err-eight
unfolding u64_at
returns-in_err-eight c = c.from_residual.ensures ∙ sym (no_bytes c.args.s.now c.args.at 8 (c.in_err-eight.ensures))

pub returns : goal.returns
unfolding u64_at
returns c =
    let w = bytes_there c.args.s.now c.args.at 8 c.in_ok-eight.eight (c.in_ok-eight.ensures) in
    let n = c.from_le_bytes.ensures ∙ eight_bytes c.in_ok-eight.eight w.0 in
    rw n (sym w.1)
