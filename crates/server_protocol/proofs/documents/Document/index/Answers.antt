use Rattle.server_protocol.proofs.documents.Document.index.Goals as goal

pub new-requires : goal.new-requires
new-requires c = rw (c.as_str.ensures.value, c.deref.ensures.value) c.args.self.now.marked
