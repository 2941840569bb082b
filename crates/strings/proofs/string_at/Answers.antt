-- The definition is a function by cases of what the prefix answers, and then of what the text answers.
use Rattle.std.proofs.Common.{rules, sym, ◌∙◌}
use Rattle.strings.specs.Laws.{string_prefix, string_text, string_part}
use Rattle.strings.proofs.string_at.Goals as goal

pub returns : goal.returns
returns c = sym (string_part _ _ _ _ _ _ (sym c.prefix_at.ensures ∙ c.in_ok-n.was) (sym c.text_at.ensures ∙ c.in_ok-end.was))

pub returns-in_err-n : goal.returns-in_err-n
returns-in_err-n c = rw (string_prefix _ _ _ _ (sym c.prefix_at.ensures ∙ c.in_err-n.was)) (search rules)

pub returns-in_err-end : goal.returns-in_err-end
returns-in_err-end c = rw (string_text _ _ _ _ _ _ (sym c.prefix_at.ensures ∙ c.in_ok-n.was) (sym c.text_at.ensures ∙ c.in_err-end.was)) (search rules)
