-- The two customers of a grid: what each one's own is. (02 e)
use Rattle.std.specs.Prelude.{Bool, cond, ◌||◌, List, map, ℕ, ◌+◌, ◌*◌, ◌/◌, ◌%◌, min, eqb, get_or, set}
use Rattle.customers.specs.declared.Campaign.{Campaign}
use Rattle.customers.specs.declared.Grid.{Grid}

-- A customer's number; any "other than 1 or 2" is nobody's.
unfoldable pub is_customer : ℕ → Bool
is_customer customer = eqb customer 1 || eqb customer 2

-- Of the first customer's and the second's, a customer's own.
abbrev pub own : {A : Type 0} → ℕ → A → A → A
own customer first second = cond (eqb customer 1) first second

-- "A mark becomes a number from 0 to 3, where the first customer owns the 1 and the second the 2": a customer's own of it, 1
-- where their job is settled, as 01 has it.
unfoldable pub own_mark : ℕ → ℕ → ℕ
own_mark customer mark = own customer (mark % 2) (mark / 2)

-- A mark with another of the customer's own, 0 or 1; the other customer's stays.
unfoldable pub with_own : ℕ → ℕ → ℕ → ℕ
with_own customer mine mark = own customer (2 * (mark / 2) + mine) (mark % 2 + 2 * mine)

-- "clears that customer's marks".
unfoldable pub cleared : ℕ → List ℕ → List ℕ
cleared customer marks = map (with_own customer 0) marks

-- The marks with the customer's own of one mark at 1.
unfoldable pub settled_at : ℕ → List ℕ → ℕ → List ℕ
settled_at customer marks place = set marks place (with_own customer 1 (get_or marks place 0))

-- A campaign of its parts: K, the entry count, and for each list its strips and its ends; then the marks.
abbrev pub campaign_of : ℕ → ℕ → ℕ → ℕ → List ℕ → List ℕ → List ℕ → Campaign
campaign_of k entries firstStrips secondStrips first_ends second_ends marks =
    record {
      k = k;
      entries = entries;
      first_strips = firstStrips;
      second_strips = secondStrips;
      first_ends = first_ends;
      second_ends = second_ends;
      marks = marks;
    }

-- A customer's campaign: "the ends and their own K, marks and entry count".
unfoldable pub campaign_as : ℕ → Grid → Campaign
campaign_as customer g =
    campaign_of (own customer g.k1 g.k2) (own customer g.entries1 g.entries2) g.first_strips
    g.second_strips g.first_ends g.second_ends (map (own_mark customer) g.marks)

-- A grid of its parts: for each list its strips and its ends; the marks; then K and the entry count of each customer.
abbrev pub grid_of : ℕ → ℕ → List ℕ → List ℕ → List ℕ → ℕ → ℕ → ℕ → ℕ → Grid
grid_of firstStrips secondStrips first_ends second_ends marks k1 entries1 k2 entries2 =
    record {
      first_strips = firstStrips;
      second_strips = secondStrips;
      first_ends = first_ends;
      second_ends = second_ends;
      marks = marks;
      k1 = k1;
      entries1 = entries1;
      k2 = k2;
      entries2 = entries2;
    }

-- The grid with these marks and a customer's own K and entry count. All else stays: the ends, and what is the other customer's.
unfoldable pub with_campaign : ℕ → ℕ → ℕ → List ℕ → Grid → Grid
with_campaign customer k entries marks g =
    grid_of g.first_strips g.second_strips g.first_ends g.second_ends marks
    (own customer k g.k1) (own customer entries g.entries1) (own customer g.k2 k) (own customer g.entries2 entries)

-- "keep the marks, cut the entries": the grid with a customer's K lowered, which leaves at most K of their entries. (02 j)
unfoldable pub lowered : ℕ → Grid → ℕ → Grid
lowered customer g k = with_campaign customer k (min k (campaign_as customer g).entries) g.marks g
