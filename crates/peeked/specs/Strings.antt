-- Where the format finds the text of a string, in strict or lenient, programs for people find the same.
use Rattle.std.specs.Prelude.{ℕ, ◌+◌, ◌≤◌, ◌≡◌, List, length, Ok}
use Rattle.std.proofs.Common.{sym, ◌∙◌, arith}
use Rattle.format.specs.declared.Setting.{Setting}
use Rattle.format.specs.Prefix.{prefix_at}
use Rattle.format.specs.Text.{string_at}
use Rattle.prefix.specs.Laws.{moves, lenient_alike}
use Rattle.strings.specs.Laws.{string_told}
use Rattle.spans.specs.Spans.{span_there}
use Rattle.spans.specs.Judged.{string_span_lem}
use Rattle.peeking.specs.Peeking.{string_span}
use Rattle.peeking.specs.Laws.{span_in}

-- n bytes after a prefix that says n
pub prefix_found : (σ : Setting) (s : List ℕ) (p n e : ℕ) → e + n ≤ length s → prefix_at σ s p ≡ Ok (n, e)
    → string_span s p ≡ record { from = e; to = e + n }
prefix_found σ s p n e room q =
    sym (span_in s p (omega (arith, moves σ s p n e q))) ∙ span_there s p n e (lenient_alike σ s p n e q) room

pub string_found : (σ : Setting) (s : List ℕ) (p from to : ℕ) → string_at σ s p ≡ Ok (record { from = from; to = to }) → string_span s p ≡ record { from = from; to = to }
string_found σ s p from to q =
    let w = string_told σ s p from to q in
    sym (span_in s p (omega (arith, moves σ s p w.0 from w.1.says))) ∙ string_span_lem σ s p from to q
