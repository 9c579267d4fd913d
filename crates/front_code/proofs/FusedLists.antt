-- The fused operations of the constant programs.
use Rattle.std.proofs.Common.{◌≡◌, refl, sym, ◌∙◌, ap, subst, ℕ, zero, suc, ◌+◌, ◌<◌, ◌==◌, List, [], ◌∷◌, Bool, true, false, ◌&&◌, arith, get_or, length, nat_lt, if◌then◌else◌, take}
use Rattle.matcher_code.specs.Lists.{CodeLists}
use Rattle.matcher_code.specs.declared.code.Op.{Op}
use Rattle.matcher_code.specs.declared.code.Op.TheVariants as op
use Rattle.matcher_code.specs.declared.fused.Fused.{Fused}
use Rattle.matcher_code.specs.declared.fused.Fused.TheVariants as fused
use Rattle.matcher_code.specs.Fused.{CanRun, HasByte, HasByteSet, IsFusedAt, IsFusionOf, TakesByte, apply_fused}
use Rattle.matcher_code.specs.Reading.{text_of}
use Rattle.matcher_code.specs.Sets.{flag_of}
use Rattle.matcher_code.specs.Steps.{Config, apply_op, op_at}
use Rattle.matcher_code.proofs.Fusing.{all_return, byte_all, byte_return, call_call, one_all, one_takes, plain, renewed, step_at, tests_byte, text_takes}
use Rattle.front_code.specs.Codes.{fast_ops, fast_sets, texts}
use Rattle.front_code.specs.declared.constants.TheConstants.{FAST_FUSED}
use Rattle.front_code.proofs.ByteLemmas.{exact_lists, fast_lists, fast_tables, has_byte_sets, long_byte_sets, right_fast_byte_sets, byte_set_at}
use Rattle.front_code.proofs.TestTables.{are_tests, by_kind, checks, counted, entries, has_entries, kind_of}

-- an operation that is fused with no other
alone : (code : CodeLists) (pc : ℕ) (f : Fused) (o : Op) → CanRun code f → ((text : List ℕ) (c : Config) → apply_fused code text f c ≡ apply_op code text o c)
    → op_at code [] pc ≡ o → IsFusedAt code pc f
alone code pc f o r same h = record { can = r; same = λ text c e. (0, same text c ∙ sym (step_at code text pc o c e h)) }

-- the flags of a set of one byte
one_flag : (byte b : ℕ) → byte < 128 → b < 128 → flag_of ((byte, byte) ∷ []) b ≡ (if b == byte then 1 else 0)
one_flag byte b h k = grind (arith, h, k)

module _ (code : CodeLists) (os : List Op) (rs : List (List (ℕ × ℕ))) (ts : List (List ℕ)) (tbs : List ℕ) (ops : code.ops ≡ os) (byte_sets : has_byte_sets rs code.byte_sets ≡ true) (same : code.texts ≡ ts) (tables : code.tables ≡ tbs) where
  -- a fused operation of a label
  abbrev Fuses : ℕ → Type 0
  Fuses pc = (f : Fused) × IsFusedAt code pc f

  at : (pc : ℕ) (o : Op) → get_or os pc op.Lose ≡ o → op_at code [] pc ≡ o
  at pc o e = ap (λ l. get_or l pc op.Lose) ops ∙ e

  has_byte_set : (set : ℕ) → set < length rs → HasByteSet code set
  has_byte_set set l = omega (arith, l, long_byte_sets rs code.byte_sets byte_sets)

  has_byte : (set byte : ℕ) → get_or rs set [] ≡ (byte, byte) ∷ [] → set < length rs → byte < 128 → HasByte code set byte
  has_byte set byte e l k = record {
    ascii = k;
    flags = λ b m. byte_set_at rs code.byte_sets byte_sets set l b (omega (arith, m)) ∙ (ap (λ r. flag_of r b) e ∙ one_flag byte b k m);
  }

  -- where the program has the byte set of a number, one fused operation, and else the other
  with_byte_set : (pc set : ℕ) → (HasByteSet code set → Fuses pc) → Fuses pc → Fuses pc
  with_byte_set pc set with_it without = here (nat_lt set (length rs)) refl
    where
      here : (b : Bool) → nat_lt set (length rs) ≡ b → Fuses pc
      here true e = with_it (has_byte_set set (grind (arith, e)))
      here false e = without

  after_byte : (pc byte next fail : ℕ) → TakesByte code pc byte next fail → Fuses pc
  after_byte pc byte next fail t = here (get_or os next op.Lose) refl
    where
      single : Fuses pc
      single = (fused.Byte byte next fail, record { can = tt; same = λ text c e. (0, t text c e) })

      here : (o : Op) → get_or os next op.Lose ≡ o → Fuses pc
      here op.Return e = (fused.ByteReturn byte next fail, byte_return code pc byte next fail t (at next op.Return e))
      here (op.All set after) e =
          with_byte_set pc set (λ r. (fused.ByteAll byte set after fail, byte_all code pc byte set next after fail t (at next (op.All set after) e) r)) single
      here o e = single

  after_one : (pc set next fail : ℕ) → op_at code [] pc ≡ op.One set next fail → HasByteSet code set → Fuses pc
  after_one pc set next fail h r = here (get_or os next op.Lose) refl
    where
      single : Fuses pc
      single = (fused.One set next fail, alone code pc (fused.One set next fail) (op.One set next fail) r (λ text c. refl) h)

      here : (o : Op) → get_or os next op.Lose ≡ o → Fuses pc
      here (op.All second after) e =
          with_byte_set pc second (λ s. (fused.OneAll set second after fail, one_all code pc set second next after fail h (at next (op.All second after) e) r s)) single
      here o e = single

  -- by the byte of a set, if it has one alone
  by_set : (pc set : ℕ) → ((byte : ℕ) → HasByte code set byte → Fuses pc) → (HasByteSet code set → Fuses pc) → Fuses pc
  by_set pc set by_byte by_byte_set = here (get_or rs set []) refl
    where
      other : Fuses pc
      other = with_byte_set pc set by_byte_set (fused.Plain, plain code pc)

      here : (r : List (ℕ × ℕ)) → get_or rs set [] ≡ r → Fuses pc
      here ((low, high) ∷ []) e = by_bounds (low == high && (nat_lt low 128 && nat_lt set (length rs))) refl
        where
          by_bounds : (b : Bool) → (low == high && (nat_lt low 128 && nat_lt set (length rs))) ≡ b → Fuses pc
          by_bounds true k = by_byte low (has_byte set low (e ∙ ap (λ (x : ℕ). (low, x) ∷ []) (let z : high ≡ low = grind (arith, k) in z)) (grind (arith, k)) (grind (arith, k)))
          by_bounds false k = other
      here r e = other

  of_text : (pc t next fail : ℕ) → op_at code [] pc ≡ op.Text t next fail → Fuses pc
  of_text pc t next fail h = here (get_or ts t []) refl
    where
      text : (bytes : List ℕ) → get_or ts t [] ≡ bytes → text_of code t ≡ bytes
      text bytes e = ap (λ l. get_or l t []) same ∙ e

      here : (bytes : List ℕ) → get_or ts t [] ≡ bytes → Fuses pc
      here [] e = (fused.Plain, plain code pc)
      here (byte ∷ []) e = after_byte pc byte next fail (text_takes code pc t byte next fail (text (byte ∷ []) e) h)
      here (byte ∷ (b ∷ bs)) e = (
        fused.Text byte t next fail,
        alone code pc (fused.Text byte t next fail) (op.Text t next fail) (ap (λ l. take 1 l) (text (byte ∷ (b ∷ bs)) e)) (λ text c. refl) h,
      )

  of_all : (pc set next : ℕ) → op_at code [] pc ≡ op.All set next → HasByteSet code set → Fuses pc
  of_all pc set next h r = here (get_or os next op.Lose) refl
    where
      here : (o : Op) → get_or os next op.Lose ≡ o → Fuses pc
      here op.Return e = (fused.AllReturn set next, all_return code pc set next h (at next op.Return e) r)
      here o e = (fused.All set next, alone code pc (fused.All set next) (op.All set next) r (λ text c. refl) h)

  of_commit : (pc next : ℕ) → op_at code [] pc ≡ op.Commit next → Fuses pc
  of_commit pc middle h = here (get_or os middle op.Lose) refl
    where
      here : (o : Op) → get_or os middle op.Lose ≡ o → Fuses pc
      here (op.Try next fail) e = (fused.Renew next fail, renewed code pc middle next fail h (at middle (op.Try next fail) e))
      here o e = (fused.Commit middle, alone code pc (fused.Commit middle) (op.Commit middle) tt (λ text c. refl) h)

  of_call : (pc to rule next fail : ℕ) (counts : Bool) → op_at code [] pc ≡ op.Call to rule next fail counts → Fuses pc
  of_call pc to rule next fail counts h = here (get_or os to op.Lose) refl
    where
      here : (o : Op) → get_or os to op.Lose ≡ o → Fuses pc
      here (op.Call end second after other inner) e = (
        fused.CallCall end (record { rule = rule; next = next; fail = fail; counts = counts }) (record { rule = second; next = after; fail = other; counts = inner }),
        call_call code pc to rule next fail counts end second after other inner h (at to (op.Call end second after other inner) e),
      )
      here o e = (
        fused.Call to rule next fail counts,
        alone code pc (fused.Call to rule next fail counts) (op.Call to rule next fail counts) tt (λ text c. refl) h,
      )

  fuse : (pc : ℕ) → Fuses pc
  fuse pc = here (get_or os pc op.Lose) refl
    where
      single : (f : Fused) (o : Op) → CanRun code f → ((text : List ℕ) (c : Config) → apply_fused code text f c ≡ apply_op code text o c) → get_or os pc op.Lose ≡ o → Fuses pc
      single f o r same e = (f, alone code pc f o r same (at pc o e))

      here : (o : Op) → get_or os pc op.Lose ≡ o → Fuses pc
      here op.Fail e = single fused.Fail op.Fail tt (λ text c. refl) e
      here (op.Call to rule next fail counts) e = of_call pc to rule next fail counts (at pc (op.Call to rule next fail counts) e)
      here (op.Sub to next fail) e = single (fused.Sub to next fail) (op.Sub to next fail) tt (λ text c. refl) e
      here op.Return e = single fused.Return op.Return tt (λ text c. refl) e
      here op.Back e = single fused.Back op.Back tt (λ text c. refl) e
      here (op.One set next fail) e =
          let h = at pc (op.One set next fail) e in
          by_set pc set (λ byte b. after_byte pc byte next fail (one_takes code pc set byte next fail b h)) (λ r. after_one pc set next fail h r)
      here (op.IsOne set next fail) e =
          let h = at pc (op.IsOne set next fail) e in
          by_set pc set (λ byte b. (fused.IsByte byte next fail, tests_byte code pc set byte next fail b h))
          (λ r. single (fused.IsOne set next fail) (op.IsOne set next fail) r (λ text c. refl) e)
      here (op.All set next) e = with_byte_set pc set (λ r. of_all pc set next (at pc (op.All set next) e) r) (fused.Plain, plain code pc)
      here (op.Text t next fail) e = of_text pc t next fail (at pc (op.Text t next fail) e)
      here (op.Try next fail) e = single (fused.Try next fail) (op.Try next fail) tt (λ text c. refl) e
      here (op.Not next fail) e = single (fused.Not next fail) (op.Not next fail) tt (λ text c. refl) e
      here (op.Commit next) e = of_commit pc next (at pc (op.Commit next) e)
      here (op.Ahead next) e = single (fused.Ahead next) (op.Ahead next) tt (λ text c. refl) e
      here (op.Note next) e = single (fused.Note next) (op.Note next) tt (λ text c. refl) e
      here o e = (fused.Plain, plain code pc)

  -- a fused operation that is given, where it is one
  given : (f : Fused) (pc : ℕ) → Fuses pc
  given (fused.Tests place) pc = here (has_entries code os rs tbs ops byte_sets tables (kind_of (get_or os pc op.Lose)) place) refl
    where
      here : (b : Bool) → has_entries code os rs tbs ops byte_sets tables (kind_of (get_or os pc op.Lose)) place ≡ b → Fuses pc
      here true e = (fused.Tests place, are_tests code os rs tbs ops byte_sets tables pc place (kind_of (get_or os pc op.Lose)) (at pc (get_or os pc op.Lose) refl) e)
      here false e = fuse pc
  given f pc = fuse pc

  -- those of the labels from one on, by a list
  pub fused_from : ℕ → List Fused → List Fused
  fused_from pc [] = []
  fused_from pc (f ∷ fs) = (given f pc).0 ∷ fused_from (suc pc) fs

  are_fused : (fs : List Fused) (pc i : ℕ) → IsFusedAt code (pc + i) (get_or (fused_from pc fs) i fused.Plain)
  unfolding fused_from
  are_fused [] pc i = plain code (pc + i)
  are_fused (f ∷ fs) pc zero = subst (λ j. IsFusedAt code j (given f pc).0) (let z : pc ≡ pc + 0 = omega arith in z) (given f pc).1
  are_fused (f ∷ fs) pc (suc i) =
      subst (λ j. IsFusedAt code j (get_or (fused_from (suc pc) fs) i fused.Plain)) (let z : suc pc + i ≡ pc + suc i = omega arith in z) (are_fused fs (suc pc) i)

  pub is_fusion : (fs : List Fused) → fused_from 0 fs ≡ fs → IsFusionOf code fs
  is_fusion fs e = λ pc.
      subst (λ l. IsFusedAt code pc (get_or l pc fused.Plain)) e
      (subst (λ j. IsFusedAt code j (get_or (fused_from 0 fs) pc fused.Plain)) (let z : 0 + pc ≡ pc = omega arith in z) (are_fused fs 0 pc))

pub exact_fusion : IsFusionOf exact_lists []
exact_fusion = λ pc. plain exact_lists pc

same_fast_list : fused_from fast_lists fast_ops fast_sets texts fast_tables refl right_fast_byte_sets refl refl 0 FAST_FUSED ≡ FAST_FUSED
unfolding fused_from given fuse of_call of_commit of_all of_text by_set after_one after_byte with_byte_set has_entries kind_of by_kind checks entries counted
same_fast_list = refl

pub fast_fusion : IsFusionOf fast_lists FAST_FUSED
fast_fusion = is_fusion fast_lists fast_ops fast_sets texts fast_tables refl right_fast_byte_sets refl refl FAST_FUSED same_fast_list
