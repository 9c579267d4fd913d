use Rattle.std.proofs.Common.{◌≡◌, false, true, inl, refl}
use Rattle.pest_run.proofs.listing.list_file.Goals as goal

pub returns-in-None-clause-tells_unread : goal.returns-in-None-clause-tells_unread
returns-in-None-clause-tells_unread g c = λ three.
    record {
      source = c.args.grammar.now;
      given = inl refl;
      unreadable = λ r. (let no : false ≡ true = c.in-None.ensures.readable.1 r in cc);
      line = c.unreadable.ensures.tells;
    }
