use Rattle.std.proofs.Common.{◌≡◌, ◌∙◌, ◌++◌, refl}
use Rattle.std.proofs.lemmas.List.{append_assoc}
use Rattle.std.proofs.lemmas.Str.{chars-append, chars-nil, IsUtf8-string_bytes}
use Rattle.base_ast.specs.Ast.{text_of}
use Rattle.front_optimizer.specs.Joined.{in_order}
use Rattle.front_optimizer.proofs.joined.concatenate_texts.Goals as goal

pub parts-init : goal.parts-init
parts-init c = rw (c.new-text.ensures.bytes, chars-nil) refl

pub parts-preserved : goal.parts-preserved
parts-preserved c =
    let added : text_of c.push_str.new.self ≡ text_of c.parts.text ++ text_of c.in-Some.part = rw (c.in_ok-push_str.ensures.bytes, c.deref.ensures) (chars-append _ _ (IsUtf8-string_bytes c.parts.text)) in
    let so_far = rw c.in-Some.ensures.items at c.parts.invariant in
    rw added (append_assoc (text_of c.parts.text) (text_of c.in-Some.part) (in_order c.pop_front.new.self.items) ∙ so_far)
