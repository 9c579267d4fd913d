use Rattle.std.proofs.Common.{◌≡◌, ◌∙◌, ap, arith, length, subst, sym}
use Rattle.std.specs.Prelude.{chars}
use Rattle.std.proofs.lemmas.Grind.{common_steps}
use Rattle.std.proofs.lemmas.List.{length-map}
use Rattle.base_ast.specs.Ast.{rules_of}
use Rattle.doc_markup.specs.Links.{links_of}
use Rattle.doc_markup.specs.Pages.{AreIndexLinks, AreSections}
use Rattle.doc_pages.proofs.html.html_page.Goals as goal

pub returns : goal.returns
returns c =
    let names = c.in_ok-names.names.items in
    let rules = rules_of c.args.doc.now.rules.value.items in
    let count : length names ≡ length rules =
    sym (length-map names (λ n. chars n.now)) ∙ (ap length c.in_ok-names.ensures ∙ length-map rules (λ r. r.name)) in
    let sections = c.in_ok-push_sections.ensures in
    record {
      names = names;
      are_names = c.in_ok-names.ensures;
      introduction = c.in_ok-introduction.introduction.tokens.items;
      unlinked = c.in_ok-introduction.ensures;
      index = c.in_ok-index.index.tokens.items;
      listed = subst (λ k. AreIndexLinks k (links_of c.in_ok-index.index.tokens.items)) (ap length c.deref.ensures.value ∙ count) c.in_ok-index.ensures;
      sections = sections.0;
      are_sections = subst (λ ns. AreSections ns rules sections.0) c.deref-5.ensures.value sections.1;
      whole = grind (arith, common_steps);
    }
