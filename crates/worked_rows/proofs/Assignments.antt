-- Definitions: their order, refusals and removal.
use Rattle.std.proofs.Common.{◌≡◌, refl, false, List, [], ◌∷◌, Some}
use Rattle.expr_tree.specs.Tree.{Tree, call}
use Rattle.semantics.specs.Assign.{ToTag, NoSymbol, NoTag, refusal}
use Rattle.semantics.specs.Rule.{key_of}
use Rattle.semantics.specs.declared.builtin.Builtin.{Builtin}
use Rattle.semantics.specs.Eval.{eval}
use Rattle.semantics.specs.Table.{row, worked}
use Rattle.semantics.specs.Match.{matches}
use Rattle.worked_rows.specs.Sample.{a', apply, area', blank, c', cells, condition, delayed, equals, f', failed, g', h', int, l', list, m', n', names, null, numbers, of, p', plus, sq', sym, symbol_of_row, t', value, x', y'}

-- a[x_] := 1; a[0] = 2; a[0]; a[5]
the_more_special_rule_comes_first :
    cells (
    delayed (apply a' (blank x')) (int 1)
    ∷ equals (apply a' (int 0)) (int 2)
    ∷ apply a' (int 0)
    ∷ apply a' (int 5) ∷ [])
    ≡ null
    ∷ value (int 2)
    ∷ value (int 2)
    ∷ value (int 1) ∷ []
unfolding eval row worked matches
the_more_special_rule_comes_first = refl

-- f[x_] := 1; f[x_g] := 2; f[x_ /; x > 5] := 3; f[0]; f[g[0]]; f[9]
typed_blanks_and_conditions_come_before_plain_ones :
    cells (
    delayed (apply f' (blank x')) (int 1)
    ∷ delayed (apply f' (of Builtin.Pattern (x' ∷ of Builtin.Blank (g' ∷ []) ∷ []))) (int 2)
    ∷ delayed (apply f' (condition (blank x') (of Builtin.Greater (x' ∷ int 5 ∷ [])))) (int 3)
    ∷ apply f' (int 0)
    ∷ apply f' (apply g' (int 0))
    ∷ apply f' (int 9) ∷ [])
    ≡ null
    ∷ null
    ∷ null
    ∷ value (int 1)
    ∷ value (int 2)
    ∷ value (int 3) ∷ []
unfolding eval row worked matches
typed_blanks_and_conditions_come_before_plain_ones = refl

-- f[x_] := 1; f[x_] := 2; f[0]
an_identical_left_side_is_replaced :
    cells (
    delayed (apply f' (blank x')) (int 1)
    ∷ delayed (apply f' (blank x')) (int 2)
    ∷ apply f' (int 0) ∷ [])
    ≡ null
    ∷ null
    ∷ value (int 2) ∷ []
unfolding eval row worked matches
an_identical_left_side_is_replaced = refl

-- f[x_] := 1 /; x > 5; f[3]; f[9]
a_right_condition_guards :
    cells (
    delayed (apply f' (blank x')) (condition (int 1) (of Builtin.Greater (x' ∷ int 5 ∷ [])))
    ∷ apply f' (int 3)
    ∷ apply f' (int 9) ∷ [])
    ≡ null
    ∷ value (apply f' (int 3))
    ∷ value (int 1) ∷ []
unfolding eval row worked matches
a_right_condition_guards = refl

-- p[1] = True; f[x_] := 1 /; p[x]; f[1]; f[2]
a_guard_may_have_rules_of_its_own :
    cells (
    equals (apply p' (int 1)) (symbol_of_row Builtin.True)
    ∷ delayed (apply f' (blank x')) (condition (int 1) (apply p' x'))
    ∷ apply f' (int 1)
    ∷ apply f' (int 2) ∷ [])
    ≡ value (symbol_of_row Builtin.True)
    ∷ null
    ∷ value (int 1)
    ∷ value (apply f' (int 2)) ∷ []
unfolding eval row worked matches
a_guard_may_have_rules_of_its_own = refl

-- f[x_] /; x > 5 := 1; f[9]; Unset of the same left side; f[9]
a_left_condition_belongs_to_the_inner_symbol :
    cells (
    delayed (condition (apply f' (blank x')) (of Builtin.Greater (x' ∷ int 5 ∷ []))) (int 1)
    ∷ apply f' (int 9)
    ∷ of Builtin.Unset (condition (apply f' (blank x')) (of Builtin.Greater (x' ∷ int 5 ∷ [])) ∷ [])
    ∷ apply f' (int 9) ∷ [])
    ≡ null
    ∷ value (int 1)
    ∷ null
    ∷ value (apply f' (int 9)) ∷ []
unfolding eval row worked matches
a_left_condition_belongs_to_the_inner_symbol = refl

-- area[sq] ^= 4; area[sq]
an_up_value_belongs_to_the_element :
    cells (
    of Builtin.UpSet (apply area' sq' ∷ int 4 ∷ [])
    ∷ apply area' sq' ∷ [])
    ≡ value (int 4)
    ∷ value (int 4) ∷ []
unfolding eval row matches
an_up_value_belongs_to_the_element = refl

-- True = 3; f[x][y] = 1; x_ = 2; f[x_sq] ^:= 1; x /: f[y] = 2; 3 = 4; x /: x = 3
refused_assignments :
    cells (
    equals (symbol_of_row Builtin.True) (int 3)
    ∷ equals (apply (apply f' x') y') (int 1)
    ∷ equals (blank x') (int 2)
    ∷ of Builtin.UpSetDelayed (apply f' (of Builtin.Pattern (x' ∷ of Builtin.Blank (sq' ∷ []) ∷ [])) ∷ int 1 ∷ [])
    ∷ of Builtin.TagSet (x' ∷ apply f' y' ∷ int 2 ∷ [])
    ∷ equals (int 3) (int 4)
    ∷ of Builtin.TagSet (x' ∷ x' ∷ int 3 ∷ []) ∷ [])
    ≡ failed
    ∷ failed
    ∷ failed
    ∷ failed
    ∷ failed
    ∷ failed
    ∷ failed ∷ []
unfolding eval row worked
refused_assignments = refl

-- f[n = 1][y] = 2; n
what_the_left_side_did_stays : cells (equals (apply (apply f' (equals n' (int 1))) y') (int 2) ∷ n' ∷ []) ≡ failed ∷ value (int 1) ∷ []
unfolding eval row
what_the_left_side_did_stays = refl

-- x = 3; x =.; x; x =.; Clear[x]
own_values_go_and_come_back :
    cells (
    equals x' (int 3)
    ∷ of Builtin.Unset (x' ∷ [])
    ∷ x'
    ∷ of Builtin.Unset (x' ∷ [])
    ∷ of Builtin.Clear (x' ∷ []) ∷ [])
    ≡ value (int 3)
    ∷ null
    ∷ value x'
    ∷ failed
    ∷ null ∷ []
unfolding eval row
own_values_go_and_come_back = refl

-- SetAttributes[f, HoldAll]; f[x_] := x; Clear[f]; Attributes[f]; f[1 + 1]; ClearAll[f]; f[1 + 1]
clearing_keeps_the_attributes :
    cells (
    of Builtin.SetAttributes (f' ∷ symbol_of_row Builtin.HoldAll ∷ [])
    ∷ delayed (apply f' (blank x')) x'
    ∷ of Builtin.Clear (f' ∷ [])
    ∷ of Builtin.Attributes (f' ∷ [])
    ∷ apply f' (plus (int 1) (int 1))
    ∷ of Builtin.ClearAll (f' ∷ [])
    ∷ apply f' (plus (int 1) (int 1)) ∷ [])
    ≡ null
    ∷ null
    ∷ null
    ∷ value (list (symbol_of_row Builtin.HoldAll ∷ []))
    ∷ value (apply f' (plus (int 1) (int 1)))
    ∷ null
    ∷ value (apply f' (int 2)) ∷ []
unfolding eval row worked
clearing_keeps_the_attributes = refl

-- these names stand in the table's order: Attributes[Plus]; SetAttributes[f, {Orderless, Flat}]; Attributes[f]; ClearAttributes[f, Flat]; Attributes[f]
attribute_names_are_in_canonical_order :
    cells (
    of Builtin.Attributes (symbol_of_row Builtin.Plus ∷ [])
    ∷ of Builtin.SetAttributes (f' ∷ list (symbol_of_row Builtin.Orderless ∷ symbol_of_row Builtin.Flat ∷ []) ∷ [])
    ∷ of Builtin.Attributes (f' ∷ [])
    ∷ of Builtin.ClearAttributes (f' ∷ symbol_of_row Builtin.Flat ∷ [])
    ∷ of Builtin.Attributes (f' ∷ []) ∷ [])
    ≡ value (list (symbol_of_row Builtin.Flat ∷ symbol_of_row Builtin.Orderless ∷ symbol_of_row Builtin.Listable ∷ symbol_of_row Builtin.Protected ∷ []))
    ∷ null
    ∷ value (list (symbol_of_row Builtin.Flat ∷ symbol_of_row Builtin.Orderless ∷ []))
    ∷ null
    ∷ value (list (symbol_of_row Builtin.Orderless ∷ [])) ∷ []
unfolding eval row worked
attribute_names_are_in_canonical_order = refl

-- Protect[f]; f[x] = 1; Clear[f]; SetAttributes[f, Flat]; Unprotect[f]; f[x] = 1
protected_symbols_refuse :
    cells (
    of Builtin.Protect (f' ∷ [])
    ∷ equals (apply f' x') (int 1)
    ∷ of Builtin.Clear (f' ∷ [])
    ∷ of Builtin.SetAttributes (f' ∷ symbol_of_row Builtin.Flat ∷ [])
    ∷ of Builtin.Unprotect (f' ∷ [])
    ∷ equals (apply f' x') (int 1) ∷ [])
    ≡ null
    ∷ failed
    ∷ failed
    ∷ failed
    ∷ null
    ∷ value (int 1) ∷ []
unfolding eval row
protected_symbols_refuse = refl

-- n = 5; n++; n; ++n; n += 3; n *= 2; n -= 4; n--; m++
increments_give_the_old_or_the_new_value :
    cells (
    equals n' (int 5)
    ∷ of Builtin.Increment (n' ∷ [])
    ∷ n'
    ∷ of Builtin.PreIncrement (n' ∷ [])
    ∷ of Builtin.AddTo (n' ∷ int 3 ∷ [])
    ∷ of Builtin.TimesBy (n' ∷ int 2 ∷ [])
    ∷ of Builtin.SubtractFrom (n' ∷ int 4 ∷ [])
    ∷ of Builtin.Decrement (n' ∷ [])
    ∷ of Builtin.Increment (m' ∷ []) ∷ [])
    ≡ value (int 5)
    ∷ value (int 5)
    ∷ value (int 6)
    ∷ value (int 7)
    ∷ value (int 10)
    ∷ value (int 20)
    ∷ value (int 16)
    ∷ value (int 16)
    ∷ failed ∷ []
unfolding eval row worked
increments_give_the_old_or_the_new_value = refl

-- l = {1}; AppendTo[l, 2]; PrependTo[l, 0]; l
elements_are_added_to_a_value :
    cells (
    equals l' (numbers (1 ∷ []))
    ∷ of Builtin.AppendTo (l' ∷ int 2 ∷ [])
    ∷ of Builtin.PrependTo (l' ∷ int 0 ∷ [])
    ∷ l' ∷ [])
    ≡ value (numbers (1 ∷ []))
    ∷ value (numbers (1 ∷ 2 ∷ []))
    ∷ value (numbers (0 ∷ 1 ∷ 2 ∷ []))
    ∷ value (numbers (0 ∷ 1 ∷ 2 ∷ [])) ∷ []
unfolding eval row worked
elements_are_added_to_a_value = refl

-- g /: f[g] = 1 + 1; f[g]; g /: h[g] := 1 + 1; h[g]
a_tagged_assignment_evaluates_its_right_side :
    cells (
    of Builtin.TagSet (g' ∷ apply f' g' ∷ plus (int 1) (int 1) ∷ [])
    ∷ apply f' g'
    ∷ of Builtin.TagSetDelayed (g' ∷ apply h' g' ∷ plus (int 1) (int 1) ∷ [])
    ∷ apply h' g' ∷ [])
    ≡ value (int 2)
    ∷ value (int 2)
    ∷ null
    ∷ value (int 2) ∷ []
unfolding eval row worked matches
a_tagged_assignment_evaluates_its_right_side = refl

numbers_of_two : List Tree
numbers_of_two = int 1 ∷ int 2 ∷ []

-- f[_Blank] := 1; f[Blank[1, 2]] := 2; f[Blank[1, 2]]; f[Blank[3]]
another_shape_does_not_count :
    cells (
    delayed (apply f' (of Builtin.Blank (symbol_of_row Builtin.Blank ∷ []))) (int 1)
    ∷ delayed (apply f' (of Builtin.Blank (numbers_of_two))) (int 2)
    ∷ apply f' (of Builtin.Blank (numbers_of_two))
    ∷ apply f' (of Builtin.Blank (int 3 ∷ [])) ∷ [])
    ≡ null
    ∷ null
    ∷ value (int 2)
    ∷ value (int 1) ∷ []
unfolding numbers_of_two eval row worked matches
another_shape_does_not_count = refl

-- f[_, _h, __, __h, ___, ___h, _?g, _ /; c]; f[Blank[1, 2], BlankSequence[1, 2], BlankNullSequence[1, 2], PatternTest[1], Condition[], Condition[1, 2, 3]]
keys_count_constructs_in_their_shape :
    key_of names (record {
      left =
          call f' (
          of Builtin.Blank [] ∷ of Builtin.Blank (h' ∷ []) ∷ of Builtin.BlankSequence [] ∷ of Builtin.BlankSequence (h' ∷ [])
          ∷ of Builtin.BlankNullSequence [] ∷ of Builtin.BlankNullSequence (h' ∷ [])
          ∷ of Builtin.PatternTest (of Builtin.Blank [] ∷ g' ∷ []) ∷ condition (of Builtin.Blank []) c' ∷ []);
      right = a';
    })
    ≡ 2 ∷ 2 ∷ 3 ∷ 1 ∷ 998 ∷ []
keys_count_constructs_in_their_shape = refl

keys_count_no_other_shape :
    key_of names (record {
      left =
          call f' (
          of Builtin.Blank numbers_of_two ∷ of Builtin.BlankSequence numbers_of_two ∷ of Builtin.BlankNullSequence numbers_of_two
          ∷ of Builtin.PatternTest (int 1 ∷ []) ∷ of Builtin.Condition [] ∷ of Builtin.Condition (int 1 ∷ int 2 ∷ int 3 ∷ []) ∷ []);
      right = a';
    })
    ≡ 0 ∷ 0 ∷ 0 ∷ 0 ∷ 1000 ∷ []
unfolding numbers_of_two
keys_count_no_other_shape = refl

-- n := (Protect[n]; 1); n++; n
a_symbol_may_be_protected_meanwhile :
    cells (
    delayed n' (of Builtin.CompoundExpression (of Builtin.Protect (n' ∷ []) ∷ int 1 ∷ []))
    ∷ of Builtin.Increment (n' ∷ [])
    ∷ n' ∷ [])
    ≡ null
    ∷ failed
    ∷ value (int 1) ∷ []
unfolding eval row worked
a_symbol_may_be_protected_meanwhile = refl

-- n := (Unprotect[n]; 1); Protect[n]; ++n; n; Protect[m]; m++
a_symbol_may_be_unprotected_meanwhile :
    cells (
    delayed n' (of Builtin.CompoundExpression (of Builtin.Unprotect (n' ∷ []) ∷ int 1 ∷ []))
    ∷ of Builtin.Protect (n' ∷ [])
    ∷ of Builtin.PreIncrement (n' ∷ [])
    ∷ n'
    ∷ of Builtin.Protect (m' ∷ [])
    ∷ of Builtin.Increment (m' ∷ []) ∷ [])
    ≡ null
    ∷ null
    ∷ value (int 2)
    ∷ value (int 2)
    ∷ null
    ∷ failed ∷ []
unfolding eval row worked
a_symbol_may_be_unprotected_meanwhile = refl

-- t /: 3[t] = 1; 3[t]; 3[x] ^= 2; 3[x]; t /: 3[x] = 1; t /: 3[4] = 1; t /: 3[a][t] = 1
a_tag_needs_no_symbol_at_the_head :
    cells (
    of Builtin.TagSet (t' ∷ apply (int 3) t' ∷ int 1 ∷ [])
    ∷ apply (int 3) t'
    ∷ of Builtin.UpSet (apply (int 3) x' ∷ int 2 ∷ [])
    ∷ apply (int 3) x'
    ∷ of Builtin.TagSet (t' ∷ apply (int 3) x' ∷ int 1 ∷ [])
    ∷ of Builtin.TagSet (t' ∷ apply (int 3) (int 4) ∷ int 1 ∷ [])
    ∷ of Builtin.TagSet (t' ∷ apply (apply (int 3) a') t' ∷ int 1 ∷ []) ∷ [])
    ≡ value (int 1)
    ∷ value (int 1)
    ∷ value (int 2)
    ∷ value (int 2)
    ∷ failed
    ∷ failed
    ∷ failed ∷ []
unfolding eval row worked matches
a_tag_needs_no_symbol_at_the_head = refl

-- of 3[x] and 3[4] the first has a symbol, to which a tag t is none; the other has none
why_a_tag_is_refused : refusal names (λ s. false) (ToTag (sym 19)) (apply (int 3) x') ≡ Some NoTag
why_a_tag_is_refused = refl

why_no_symbol_is_found : refusal names (λ s. false) (ToTag (sym 19)) (apply (int 3) (int 4)) ≡ Some NoSymbol
why_no_symbol_is_found = refl
