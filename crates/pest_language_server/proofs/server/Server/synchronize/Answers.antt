use Rattle.std.proofs.Common.{ap}
use Rattle.server_protocol.specs.Documents.{document_in}
use Rattle.pest_language_server.proofs.server.Server.synchronize.Goals as goal

pub returns-in-Open-clause-documents : goal.returns-in-Open-clause-documents
returns-in-Open-clause-documents c = rw c.in-Open.is c.open.ensures.documents

pub returns-in-Open-clause-sent : goal.returns-in-Open-clause-sent
returns-in-Open-clause-sent c = rw c.in-Open.is c.open.ensures.sent

pub returns-in-Change-clause-documents : goal.returns-in-Change-clause-documents
returns-in-Change-clause-documents c = rw c.in-Change.is c.change.ensures.documents

pub returns-in-Change-clause-sent : goal.returns-in-Change-clause-sent
returns-in-Change-clause-sent c = rw c.in-Change.is c.change.ensures.sent

pub returns-in-Save-clause-documents : goal.returns-in-Save-clause-documents
returns-in-Save-clause-documents c = rw c.in-Save.is (λ uri. ap (λ documents. document_in documents uri) c.publish.ensures.documents)

pub returns-in-Save-clause-sent : goal.returns-in-Save-clause-sent
returns-in-Save-clause-sent c = rw c.in-Save.is c.publish.ensures.sent

pub returns-in-Close-clause-documents : goal.returns-in-Close-clause-documents
returns-in-Close-clause-documents c = rw c.in-Close.is c.close.ensures.documents

pub returns-in-Close-clause-sent : goal.returns-in-Close-clause-sent
returns-in-Close-clause-sent c = rw c.in-Close.is c.close.ensures.sent
