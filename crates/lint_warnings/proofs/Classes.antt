-- The nodes of a class of characters, met one by one.
use Rattle.std.proofs.Common.{◌≡◌, List, [], ◌∷◌, ◌++◌, Bool, true, false, ◌&&◌, ◌||◌, Bor, refl, sym, ap, ◌∙◌}
use Rattle.std.specs.List.{list_all, list_any}
use Rattle.std.proofs.Math.Bool.{or_assoc, or-false}
use Rattle.base_language.specs.Language.Text.{Text}
use Rattle.front_spanned.specs.Nodes.{view}
use Rattle.front_spanned.specs.Spanned.{Spanned}
use Rattle.front_spanned.specs.Walk.{preorder, waiting}
use Rattle.front_spanned.specs.declared.node.ParserNode.{ParserNode}
use Rattle.front_spanned.proofs.Walks.{waiting_push}
use Rattle.lint_warnings.specs.Tokens.{is_class_node, is_part}
use Rattle.lint_warnings.proofs.Names.{first_of}

-- all of these are parts of a class, and one of them is a class, where none was before
abbrev pub is_rest : (Text → Bool) → Bool → List Spanned → Bool
is_rest f has xs = list_all (is_part f) xs && (has || list_any (is_class_node f) xs)

pub part_met : (f : Text → Bool) (x : Spanned) (w v : List Spanned) (has new all : Bool) → w ≡ x ∷ v → is_part f x ≡ true → new ≡ (has || is_class_node f x)
    → is_rest f has w ≡ all → is_rest f new v ≡ all
part_met f x w v has new all h p e i =
    ap (λ b. list_all (is_part f) v && (b || list_any (is_class_node f) v)) e
    ∙ (ap (λ b. list_all (is_part f) v && b) (or_assoc has (is_class_node f x) (list_any (is_class_node f) v))
    ∙ (ap (λ b. (b && list_all (is_part f) v) && (has || (is_class_node f x || list_any (is_class_node f) v))) (sym p)
    ∙ (ap (is_rest f has) (sym h) ∙ i)))

no_part_met : (f : Text → Bool) (x : Spanned) (w v : List Spanned) (has all : Bool) → w ≡ x ∷ v → is_part f x ≡ false → is_rest f has w ≡ all → all ≡ false
no_part_met f x w v has all h p i =
    sym i ∙ (ap (is_rest f has) h ∙ ap (λ b. (b && list_all (is_part f) v) && (has || (is_class_node f x || list_any (is_class_node f) v))) p)

-- a node on top that is no part
pub no_part_popped : (f : Text → Bool) (ss ps : List (Bor ParserNode)) (n : Bor ParserNode) (has all : Bool) → ss ≡ ps ++ (n ∷ []) → is_part f (view n.now) ≡ false → is_rest f has (waiting ss) ≡ all → all ≡ false
no_part_popped f ss ps n has all e p i =
    let q = first_of (view n.now) in
    no_part_met f (view n.now) (waiting ss) (q.0 ++ waiting ps) has all (ap waiting e ∙ (waiting_push ps n ∙ ap (λ l. l ++ waiting ps) q.1)) p i

-- none is left
pub no_rest : (f : Text → Bool) (ss : List (Bor ParserNode)) (has all : Bool) → ss ≡ [] → is_rest f has (waiting ss) ≡ all → has ≡ all
no_rest f ss has all e i = sym (or-false has) ∙ (ap (λ l. is_rest f has (waiting l)) (sym e) ∙ i)
