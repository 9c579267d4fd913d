use Rattle.doc_pages.proofs.Asking.{first_asked}
use Rattle.doc_pages.proofs.html.find_rule.Goals as goal

pub returns-in-None : goal.returns-in-None
returns-in-None c = rw c.in-None.is (first_asked c.args.rules.now c.first.result c.first.ensures.value)
