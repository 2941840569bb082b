-- Each return is one case of `need_of`: the bounds of its arm decide it.
use Rattle.format.specs.Text.{need_of}
use Rattle.fields.specs.Auto.{auto}
use Rattle.text.proofs.need_of.Goals as goal

pub returns-in-0-to-127 : goal.returns-in-0-to-127
unfolding need_of
returns-in-0-to-127 c = search auto

pub returns-in-194-to-223 : goal.returns-in-194-to-223
unfolding need_of
returns-in-194-to-223 c = search auto

pub returns-in-224-to-239 : goal.returns-in-224-to-239
unfolding need_of
returns-in-224-to-239 c = search auto

pub returns-in-240-to-244 : goal.returns-in-240-to-244
unfolding need_of
returns-in-240-to-244 c = search auto

pub returns-in_default : goal.returns-in_default
unfolding need_of
returns-in_default c = search auto

pub returns-in_default-2 : goal.returns-in_default-2
unfolding need_of
returns-in_default-2 c = search auto
