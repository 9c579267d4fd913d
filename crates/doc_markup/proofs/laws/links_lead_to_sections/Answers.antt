use Rattle.doc_markup.proofs.Leading.{links_lead, no_links_elsewhere}
use Rattle.doc_markup.proofs.laws.links_lead_to_sections.Goals as goal

pub returns : goal.returns
returns c = record { lead = links_lead; nowhere_else = no_links_elsewhere }
