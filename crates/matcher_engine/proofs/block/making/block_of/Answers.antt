use Rattle.std.proofs.Common.{◌≡◌, ◌∙◌, ◌<◌, [], ap, arith, drop, false, get_or, length, lit<, map, string_bytes, subst, sym, true}
use Rattle.std.proofs.lemmas.List.{length-map}
use Rattle.format_code.specs.Codes.{lists_at}
use Rattle.format_code.specs.Sections.{section}
use Rattle.matcher_compiler.specs.Compiled.{IsCodeOf}
use Rattle.matcher_compiler.specs.Extents.{IsFitting}
use Rattle.matcher_machine.specs.Kinds.{IsFramed}
use Rattle.matcher_engine.specs.Blocks.{part_of}
use Rattle.matcher_engine.proofs.block.making.block_of.Goals as goal

pub returns-clause-code : goal.returns-clause-code
returns-clause-code c =
    let block = c.in_ok-block.block.items in
    let p = c.args.program.now in
    let behind : drop 16 block ≡ c.in_ok-sections.sections.items = c.in_ok-block.ensures.sections ∙ c.deref-2.ensures.value in
    let plain : part_of block 0 ≡ c.in_ok-code.code.items =
    ap (λ bs. section bs 0) behind ∙ (c.in_ok-sections.ensures 0 (lit< tt) ∙ c.as_slice.ensures.value) in
    let exact : part_of block 1 ≡ c.in_ok-exact.exact.items =
    ap (λ bs. section bs 1) behind ∙ (c.in_ok-sections.ensures 1 (lit< tt) ∙ c.as_slice-2.ensures.value) in
    record {
      head = c.in_ok-block.ensures.whole.head;
      plain = subst (λ bs. IsCodeOf false p (lists_at bs)) (sym plain) c.in_ok-code.ensures.code;
      exact = subst (λ bs. IsCodeOf true p (lists_at bs)) (sym exact) c.in_ok-exact.ensures;
      fits = subst (λ bs. IsFitting p (lists_at bs)) (sym plain) c.in_ok-code.ensures.fits;
      framed = subst (λ bs. IsFramed (lists_at bs)) (sym plain) c.in_ok-code.ensures.framed;
    }

pub returns-clause-rules : goal.returns-clause-rules
returns-clause-rules c =
    let block = c.in_ok-block.block.items in
    let rules = c.args.rules.now in
    let behind : drop 16 block ≡ c.in_ok-sections.sections.items = c.in_ok-block.ensures.sections ∙ c.deref-2.ensures.value in
    let names : part_of block 2 ≡ c.in_ok-names.names.items =
    ap (λ bs. section bs 2) behind ∙ (c.in_ok-sections.ensures 2 (lit< tt) ∙ c.as_slice-3.ensures.value) in
    let many : length c.deref.result.now ≡ length rules =
    ap length c.deref.ensures.value
    ∙ omega (arith, ap length c.in_ok-named.ensures, length-map c.in_ok-named.named.items (λ n. n.now), length-map rules (λ r. string_bytes r.name)) in
    record {
      names = λ k h.
          let l : k < length c.deref.result.now = omega (arith, many, h) in
          ap (λ bs. section bs k) names
          ∙ (c.in_ok-names.ensures k l
          ∙ (ap (λ ns. get_or (map (λ n. n.now) ns) k []) c.deref.ensures.value ∙ ap (λ ns. get_or ns k []) c.in_ok-named.ensures));
      types = ap (λ bs. section bs 3) behind ∙ (c.in_ok-sections.ensures 3 (lit< tt) ∙ (c.as_slice-4.ensures.value ∙ c.in_ok-types.ensures));
    }
