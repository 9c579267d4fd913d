-- Printed forms of some expressions.
use Rattle.std.specs.Prelude.{◌≡◌, pos, negsuc, [], ◌∷◌, ◌++◌, Some, None, codes}
use Rattle.base_language.specs.Language.Expression.{Str, Insens, Range, Ident, PeekSlice, PosPred, NegPred, Seq, Choice, Opt, Rep, RepMinMax, Skip, Push, RestoreOnErr, PushLiteral, NodeTag}
use Rattle.base_ast.specs.Printing.{printed}

pub record PrintedRows : Type 0 where
  pub counted : printed (RepMinMax (PosPred (Ident (codes "e"))) 2 3) ≡ codes "(&e){2, 3}"
  pub controls : printed (Range (1 ∷ []) (11 ∷ [])) ≡ codes "('\\u{01}'..'\\u{0b}')"
  pub no_bounds : printed (Range [] []) ≡ codes "(''..'')"
  pub wrapped : printed (Opt (RestoreOnErr (NegPred (Ident (codes "e"))))) ≡ codes "(!e)?"
  pub other_quote : printed (Str (codes "a'b")) ≡ codes "\"a'b\""
  pub beyond_ascii : printed (Str (0x85 ∷ 0xe9 ∷ 0x2028 ∷ []))
      ≡ codes "\"\\u{85}" ++ 0xe9 ∷ codes "\\u{2028}\""
  pub quotes : printed (Range (codes "'") (34 ∷ [])) ≡ codes "('\\''..'\"')"
  pub skips : printed (Skip (codes "a" ∷ codes "bc" ∷ [])) ≡ codes "(!(\"a\" | \"bc\") ~ ANY)*"
  pub wrapped_again : printed (Rep (RestoreOnErr (PosPred (Ident (codes "e"))))) ≡ codes "(&e)*"
  pub two_signs : printed (PosPred (RestoreOnErr (NegPred (Ident (codes "a"))))) ≡ codes "&!a"
  pub flattened : printed
      (Seq (Seq (Ident (codes "a")) (Ident (codes "b"))) (Seq (Ident (codes "c")) (Ident (codes "d"))))
      ≡ codes "((a ~ b) ~ c ~ d)"
  pub apart : printed (Seq (Ident (codes "a")) (RestoreOnErr (Seq (Ident (codes "b")) (Ident (codes "c")))))
      ≡ codes "(a ~ (b ~ c))"
  pub slices : printed (Choice (PeekSlice (pos 0) None) (PeekSlice (pos 0) (Some (negsuc 0))))
      ≡ codes "(PEEK[0..] | PEEK[0..-1])"
  pub pushed : printed (Push (Insens (codes "a"))) ≡ codes "PUSH(^\"a\")"
  pub literal_push : printed (PushLiteral (codes "a\"")) ≡ codes "PUSH_LITERAL(\"a\\\"\")"
  pub tagged : printed (Rep (NodeTag (NegPred (Ident (codes "a"))) (codes "t"))) ≡ codes "(#t = !a)*"
