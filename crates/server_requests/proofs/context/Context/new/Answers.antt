use Rattle.std.proofs.Common.{refl}
use Rattle.server_requests.proofs.context.Context.new.Goals as goal

pub returns : goal.returns
returns c =
    let document = c.args.document.now in
    let text = c.as_str.ensures.value in
    record {
      same_uri = refl;
      same_text = text;
      same_client = refl;
      lexed = rw (text, c.deref.ensures.value) document.lexed;
      defined = rw (c.deref-2.ensures.value, c.deref.ensures.value) document.defined;
    }
