-- The length is that of `bytes_between`; a text that is none has one number, whatever its fault.
use Rattle.replies.specs.Replies.{text_part}
use borrow.Author.Rules.{rules}
use Rattle.replies.proofs.text_reply.Goals as goal

pub returns-in-Ok : goal.returns-in-Ok
returns-in-Ok c = search (text_part, rules)
