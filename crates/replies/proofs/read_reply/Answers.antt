-- Each arm has the values of its reply; a refusal's number is that of `number_of`.
use Rattle.replies.specs.Replies.{read_refused}
use borrow.Author.Rules.{rules}
use Rattle.replies.proofs.read_reply.Goals as goal

pub returns-in-Err : goal.returns-in-Err
returns-in-Err c = search (read_refused, rules)
