-- The knowledge of a lifter, and how each step changes it. This project's own.
use Rattle.std.specs.Prelude.{ℕ, ◌+◌, ◌||◌, true, false, nat_lt, if◌then◌else◌, max, List, [], ◌∷◌, ◌++◌, slice_set}
use Rattle.vpg_measure.specs.Orders.{OrderView}
use Rattle.vpg_board.specs.declared.lifter.Lifter.{Lifter}
use Rattle.vpg_board.specs.declared.lifter.Part.{Part}
use Rattle.vpg_board.specs.declared.lifter.Joined.{Joined}
use Rattle.vpg_board.specs.Places.{values}

-- the greater of both values at each place
abbrev pub greater : List ℕ → List ℕ → List ℕ
greater [] u = u
greater (x ∷ t) [] = x ∷ t
greater (x ∷ t) (y ∷ u) = max x y ∷ greater t u

-- the lifter of a new board: it has seen the order's tables
abbrev pub opener : OrderView → Lifter
opener order =
    record {
      order = order;
      seen = values order;
      claims = [];
      empty = 0;
      splits = 0;
      stands = 1;
      opening = true;
      joins = [];
    }

-- this number was seen at this place
abbrev pub sees : Lifter → ℕ → ℕ → Lifter
sees v place n = record v { seen = slice_set v.seen place n }

-- this claim number came, on a board of this many places: a claim, or an empty one if all places are gone
abbrev pub claims : ℕ → Lifter → ℕ → Lifter
claims size v n = record v {
  claims = if nat_lt n size then v.claims ++ n ∷ [] else v.claims;
  empty = if nat_lt n size then v.empty else v.empty + 1;
}

-- one more split
abbrev pub splits : Lifter → Lifter
splits v = record v { splits = v.splits + 1 }

-- the new lifter that a split makes: it has seen the same, and stands for itself
abbrev pub newcomer : Lifter → Lifter
newcomer v = record v { claims = []; empty = 0; splits = 0; stands = 1; opening = false; joins = [] }

-- what a lifter knows at a join
abbrev pub part_of : Lifter → Part
part_of v = record {
  seen = v.seen;
  claims = v.claims;
  empty = v.empty;
  splits = v.splits;
  stands = v.stands;
  opening = v.opening;
}

-- one lifter merges another
abbrev pub both : Lifter → Lifter → Lifter
both v w = record v {
  seen = greater v.seen w.seen;
  claims = v.claims ++ w.claims;
  empty = v.empty + w.empty;
  splits = v.splits + w.splits;
  stands = v.stands + w.stands;
  opening = v.opening || w.opening;
  joins = record { one = part_of v; other = part_of w } ∷ v.joins ++ w.joins;
}

-- no order at all
abbrev pub no_order : OrderView
no_order = record {
  game = record { vertices = []; features = 0 };
  diagram = record { names = []; lines = [] };
  decisions = [];
  known = [];
  hopeful = [];
  dual = [];
  hopeful_room = [];
  dual_room = [];
}

-- a lifter that another merged
abbrev pub spent : Lifter
spent = record {
  order = no_order;
  seen = [];
  claims = [];
  empty = 0;
  splits = 0;
  stands = 0;
  opening = false;
  joins = [];
}
