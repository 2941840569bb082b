-- The plain bytes that begin the rest.
use Rattle.std.proofs.Common.{arith, rules, tests}
use Rattle.std.proofs.lemmas.Iterator.Consumers.{count_from_yields_List}
use Rattle.std.proofs.lemmas.Iterator.{YieldsList-from_slice}
use Rattle.std.proofs.lemmas.Iterator.Search.{YieldsList-from_take_while}
use Rattle.std.proofs.lemmas.List.Folds.{length-prefix_len}
use Rattle.peeking.specs.Peeking.{is_plain, plain_end}
use Rattle.peeking.proofs.Plain.{plain_prefix, rest_all}
use Rattle.peeking.specs.Laws.{plain_past}
use Rattle.peeking.proofs.plain_end.Goals as goal

pub returns-in-None : goal.returns-in-None
returns-in-None c = search (plain_past, rules)

pub returns-in-Some : goal.returns-in-Some
unfolding plain_end
returns-in-Some c =
    let w = count_from_yields_List c.take_while.result _ c.count.ensures.ran (YieldsList-from_take_while _ is_plain (YieldsList-from_slice c.in-Some.rest.now cc) c.take_while.ensures.closure c.take_while.ensures.done (λ x b q k. search (rules, tests))) in
    let v = length-prefix_len is_plain c.in-Some.rest.now in
    let u = plain_prefix c.in-Some.rest.now in
    let q = rest_all _ _ c.args.at c.in-Some.ensures.lookup.0.2 in
    rw (← q) (omega (arith, w, v, u))
