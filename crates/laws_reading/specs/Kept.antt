-- What the reader keeps of phrases: what is beyond the limits of an expression is left out.
--     fits, cut, keep           whether an expression is within the limits; it where it is; a phrase with it
--     Kept, KeptList            a phrase and a list of elements, which are None where something in them is left out
--     kept_chained ..           what the constructs of the grammar give of these
--     kept                      all the constructs
use Rattle.std.specs.Prelude.{Bool, ◌&&◌, leb, cond, List, [], ◌∷◌, ◌++◌, Option, Some, None}
use Rattle.expr_tree.specs.Tree.{Tree, call, size, depth}
use Rattle.semantics.specs.declared.builtin.Builtin.{Builtin}
use Rattle.semantics.specs.Names.{Names, make, name}
use Rattle.syntax.specs.Operators.{Prefix, Postfix, Gives, gives_of}
use Rattle.syntax.specs.Terminals.{Phrase, PhraseKind, Closed, Open}
use Rattle.syntax.specs.Phrases.{Constructs, chained, negated_by, negated_kind, minus_one, accepts_by}

unfoldable pub fits : Tree → Bool
fits e = leb (size e) 4000000 && leb (depth e) 512

unfoldable pub cut : Tree → Option Tree
cut e = cond (fits e) (Some e) None

pub record Kept : Type 0 where
  pub expr : Option Tree
  pub kind : PhraseKind

abbrev pub KeptList : Type 0
KeptList = Option (List Tree)

abbrev pub with_kind : Option Tree → PhraseKind → Kept
with_kind e kind = record { expr = e; kind = kind }

abbrev pub left_out : PhraseKind → Kept
left_out kind = record { expr = None; kind = kind }

abbrev pub as_phrase : Tree → PhraseKind → Phrase
as_phrase e kind = record { expr = e; kind = kind }

abbrev pub keep : Phrase → Kept
keep x = record { expr = cut x.expr; kind = x.kind }

abbrev pub whole : Option Tree → Kept
whole e = record { expr = e; kind = Closed }

abbrev pub kept_added : KeptList → Option Tree → KeptList
kept_added (Some es) (Some e) = Some (es ++ (e ∷ []))
kept_added _ _ = None

abbrev pub kept_call : Option Tree → KeptList → Option Tree
kept_call (Some h) (Some es) = cut (call h es)
kept_call _ _ = None

abbrev pub negated_one : Names → Option Tree → PhraseKind → Option Tree
negated_one names (Some e) kind = cut (negated_by names kind e)
negated_one names None kind = None

abbrev pub kept_negated : Names → Kept → Kept
kept_negated names x = record { expr = negated_one names x.expr x.kind; kind = negated_kind names x.kind }

abbrev pub trail_row : Postfix → Builtin
trail_row Postfix.Increment = Builtin.Increment
trail_row Postfix.Decrement = Builtin.Decrement
trail_row Postfix.Function = Builtin.Function
trail_row Postfix.Unset = Builtin.Unset

abbrev pub kept_apply : Option Tree → Option Tree → Option Tree
kept_apply (Some h) (Some e) = cut (call h (e ∷ []))
kept_apply _ _ = None

module _ (names : Names) where
  abbrev pub kept_list : Builtin → KeptList → Option Tree
  kept_list row (Some es) = cut (make names row es)
  kept_list row None = None

  abbrev pub kept_one : Builtin → Option Tree → Option Tree
  kept_one row (Some e) = cut (make names row (e ∷ []))
  kept_one row None = None

  abbrev pub kept_pair : Builtin → Option Tree → Option Tree → Option Tree
  kept_pair row (Some a) (Some b) = cut (make names row (a ∷ b ∷ []))
  kept_pair row _ _ = None

  abbrev pub kept_triple : Builtin → Option Tree → Option Tree → Option Tree → Option Tree
  kept_triple row (Some a) (Some b) (Some c) = cut (make names row (a ∷ b ∷ c ∷ []))
  kept_triple row _ _ _ = None

  abbrev pub kept_part : Option Tree → KeptList → Option Tree
  kept_part (Some e) (Some es) = cut (make names Builtin.Part (e ∷ es))
  kept_part _ _ = None

  abbrev pub chained_one : Builtin → PhraseKind → Option Tree → Option Tree → Option Tree
  chained_one row kind None x = None
  chained_one row kind (Some b) None = None
  chained_one row kind (Some b) (Some a) = cut (chained names row (as_phrase a kind) b).expr

  abbrev pub kept_chained : Builtin → Kept → Option Tree → Kept
  kept_chained row x y = record { expr = chained_one row x.kind y x.expr; kind = Open row }

  abbrev pub kept_inverse : Option Tree → Option Tree
  kept_inverse (Some e) = cut (make names Builtin.Power (e ∷ minus_one ∷ []))
  kept_inverse None = None

  abbrev pub kept_join : Gives → Kept → Kept → Kept
  kept_join (Gives.Pair row) x y = whole (kept_pair row x.expr y.expr)
  kept_join (Gives.Chain row) x y = kept_chained row x y.expr
  kept_join Gives.Quotient x y = kept_chained Builtin.Times x (kept_inverse y.expr)
  kept_join Gives.Difference x y = kept_chained Builtin.Plus x (kept_negated names y).expr
  kept_join Gives.CallOfLeft x y = whole (kept_apply x.expr y.expr)
  kept_join Gives.CallOfRight x y = whole (kept_apply y.expr x.expr)
  kept_join Gives.Naming x y = whole (kept_pair Builtin.Pattern x.expr y.expr)

  abbrev pub kept_lead : Prefix → Kept → Kept
  kept_lead Prefix.PreIncrement x = whole (kept_one Builtin.PreIncrement x.expr)
  kept_lead Prefix.PreDecrement x = whole (kept_one Builtin.PreDecrement x.expr)
  kept_lead Prefix.Negate x = kept_negated names x
  kept_lead Prefix.Not x = whole (kept_one Builtin.Not x.expr)

  abbrev pub kept : Constructs Kept (Option Tree) KeptList
  kept = record {
    of_leaf = keep;
    expr_of = λ x. x.expr;
    of_group = λ x. whole x.expr;
    no_elements = Some [];
    added = kept_added;
    of_list = λ es. whole (kept_list Builtin.List es);
    of_call = λ h es. whole (kept_call h es);
    of_part = λ e es. whole (kept_part e es);
    of_join = λ op x y. kept_join (gives_of op) x y;
    accepts = λ op x. accepts_by (gives_of op) x.kind;
    of_lead = kept_lead;
    of_trail = λ op x. whole (kept_one (trail_row op) x.expr);
    of_end = λ x. kept_chained Builtin.CompoundExpression x (Some (name names Builtin.Null));
    of_tag = λ row t l r. whole (kept_triple row t.expr l.expr r.expr);
  }
