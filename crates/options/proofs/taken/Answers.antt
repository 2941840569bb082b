-- One law for each way that an option ends: a name is missing, a name follows, none is wanted.
use Rattle.std.proofs.Common.{◌≡◌, ◌+◌, rules}
use Rattle.options.specs.Options.{next_to}
use Rattle.options.specs.Laws.{taken_alone, taken_short, taken_named}
use Rattle.options.proofs.taken.Goals as goal

pub returns-then-not-names_book : goal.returns-then-not-names_book
returns-then-not-names_book c =
    let m : c.map.result ≡ next_to c.chosen_by-chosen.result (c.args.i + 1) = search rules in
    taken_alone _ _ _ _ c.requires _ c.names_book.ensures _ _ c.chosen_by-chosen.ensures c.if-not-names_book.true m

pub returns-then-n-i-eq1 : goal.returns-then-n-i-eq1
returns-then-n-i-eq1 c = taken_short _ _ _ _ c.requires _ c.names_book.ensures c.if-not-names_book.false c.if-n-i-eq1.true

pub returns : goal.returns
returns c =
    let m : c.map-2.result ≡ next_to c.chosen_by-chosen.result (c.args.i + 2) = search rules in
    taken_named _ _ _ _ c.requires _ c.names_book.ensures _ _ c.chosen_by-chosen.ensures c.if-not-names_book.false c.if-n-i-eq1.false m
