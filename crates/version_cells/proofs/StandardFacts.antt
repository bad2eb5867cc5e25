-- The limits by their numbers, a small history with its counts, and one call step by step, in
-- literals, so that a wrong definition in the specs does not check. The steps are those that
-- docs/VERSION_WORDS.md tells.
use Rattle.std.proofs.Common.{◌≡◌, ◌-◌, ◌^◌, ℕ, List, [], ◌∷◌, replicate, Bool, true, false, Option, Some, None, refl, arith}
use Rattle.jar_types.specs.declared.entry.Entry.TheVariants.{Jar}
use Rattle.jar_types.specs.declared.entry.Own.TheVariants.{Whole}
use Rattle.version_cells.specs.declared.cells.TheConstants.{CELLS, WORDS, MOST_ENTRIES}
use Rattle.version_cells.specs.declared.listing.Listing.{Listing}
use Rattle.version_cells.specs.declared.view.Look.{Look}
use Rattle.version_cells.specs.declared.view.Memory.{Memory}
use Rattle.version_cells.specs.declared.view.Permit.{Permit}
use Rattle.version_cells.specs.declared.view.Kind.TheVariants.{Baton, Pass, Copy, Spent}
use Rattle.version_cells.specs.declared.view.View.{View}
use Rattle.version_cells.specs.Listings.{turns, owned, IsCell}
use Rattle.version_cells.specs.Reached.{Step, Reached}

pub limits : (CELLS ≡ 4096) × (WORDS ≡ 4097) × (MOST_ENTRIES ≡ 2 ^ 63 - 1)
limits = (refl, refl, refl)

-- a listing of these cells for this owner
abbrev pub listing : List ℕ → Option ℕ → Listing
listing cells owner = record { cells = cells; owner = owner; about = Jar (Whole 7) }

-- pass 0 moves the cells 2 and 3, nobody moves 2, and pass 1 moves none
abbrev three : List Listing
three = listing (2 ∷ 3 ∷ []) (Some 0) ∷ listing (2 ∷ []) None ∷ listing [] (Some 1) ∷ []

pub counts : (turns 2 three ≡ 2) × (turns 3 three ≡ 1) × (turns 4 three ≡ 0)
    × (owned 0 three ≡ 1) × (owned 1 three ≡ 1) × (owned 2 three ≡ 0)
counts = (refl, refl, refl, refl, refl, refl)

-- the first and the last cell are cells, and their neighbours are none
pub cells : IsCell 1 × IsCell 4096 × ¬ (IsCell 0) × ¬ (IsCell 4097)
cells = (
  (omega arith, omega arith),
  (omega arith, omega arith),
  (λ h. absurd (let a = h.0 in omega arith)),
  (λ h. absurd (let a = h.1 in omega arith)),
)

-- what a seat remembers
abbrev pub memory : List Listing → Option Look → ℕ → Memory
memory seen last found = record { seen = seen; last = last; found = found }

-- the permit of a pass, with its uses
abbrev pub permit : ℕ → ℕ → Permit
permit number uses = record { number = number; uses = uses }

-- a baton, by what it has seen, its notes, its permit, its pending cells and the next number
abbrev pub baton : List Listing → List Memory → Option Permit → List ℕ → ℕ → View
baton seen notes held pending next = record {
  kind = Baton;
  own = memory seen None 0;
  notes = notes;
  permit = held;
  pending = pending;
  next = next;
  number = 0;
  calls = 0;
  away = false;
  looks = [];
  fronts = 0;
}

-- a pass, by its memory and notes, its number, its calls, whether its permit is away, its looks and
-- its front steps
abbrev pub pass : Memory → List Memory → ℕ → ℕ → Bool → List Look → ℕ → View
pass own notes number calls away looks fronts = record {
  kind = Pass;
  own = own;
  notes = notes;
  permit = None;
  pending = [];
  next = 0;
  number = number;
  calls = calls;
  away = away;
  looks = looks;
  fronts = fronts;
}

-- a copy, by its memory and its permit
abbrev pub copy : Memory → Option Permit → View
copy own held = record {
  kind = Copy;
  own = own;
  notes = [];
  permit = held;
  pending = [];
  next = 0;
  number = 0;
  calls = 0;
  away = false;
  looks = [];
  fronts = 0;
}

-- a seat that was taken in
abbrev pub spent : View
spent = record {
  kind = Spent;
  own = memory [] None 0;
  notes = [];
  permit = None;
  pending = [];
  next = 0;
  number = 0;
  calls = 0;
  away = false;
  looks = [];
  fronts = 0;
}

-- nothing, the entry of the call, which moves the cell 2, all that it leaves, and a look at its
-- cell
abbrev pub nothing : Memory
nothing = memory [] None 0

abbrev pub called : Listing
called = listing (2 ∷ []) (Some 0)

abbrev all : Memory
all = memory (called ∷ []) None 0

abbrev pub look : Look
look = record { cell = 2; number = 1; place = 1 }

-- the words before the call, while its cell is pending, and after it
abbrev before : List ℕ
before = 0 ∷ 0 ∷ 0 ∷ []

abbrev bumped : List ℕ
bumped = 0 ∷ 0 ∷ 1 ∷ []

abbrev pub after : List ℕ
after = 1 ∷ 0 ∷ 1 ∷ []

-- the baton before the call, with the permit, with a pending cell, and after the commit, with the
-- permit and without
abbrev free : View
free = baton [] [] None [] 1

abbrev lent : View
lent = baton [] (nothing ∷ []) (Some (permit 0 0)) [] 1

abbrev pending : View
pending = baton [] (nothing ∷ []) (Some (permit 0 0)) (2 ∷ []) 1

abbrev used : View
used = baton (called ∷ []) (nothing ∷ []) (Some (permit 0 1)) [] 1

abbrev done : View
done = baton (called ∷ []) (nothing ∷ []) None [] 1

-- the pass when it is made, with its permit away, with the baton's copy in, and once it read the
-- number of entries
abbrev new : View
new = pass nothing [] 0 0 false [] 0

abbrev waiting : View
waiting = pass nothing [] 0 0 true [] 0

abbrev told : View
told = pass nothing (all ∷ []) 0 1 false [] 0

abbrev seen : View
seen = pass (memory (called ∷ []) None 1) (all ∷ []) 0 1 false [] 1

-- the pass, once it looked
abbrev looked : View
looked = pass (memory (called ∷ []) (Some look) 1) (all ∷ []) 0 1 false (look ∷ []) 1

-- the views while the copy with the permit goes to the baton, and while one of the baton comes back
abbrev going : List View
going = free ∷ waiting ∷ copy nothing (Some (permit 0 0)) ∷ []

abbrev coming : List View
coming = done ∷ waiting ∷ copy all (Some (permit 0 1)) ∷ []

-- the baton makes the pass 0
pub made : Step before (baton [] [] None [] 0 ∷ []) before (free ∷ new ∷ [])
made = Step.makes_pass before (baton [] [] None [] 0 ∷ []) 0 (baton [] [] None [] 0) refl refl

-- the pass lends its permit: a copy takes it along, and the baton takes the copy in
pub lending : Step before (free ∷ new ∷ []) before going
    × Step before going before (lent ∷ waiting ∷ spent ∷ [])
lending = (
  Step.lends before (free ∷ new ∷ []) 1 new refl refl refl,
  Step.baton_takes before going 0 2 free nothing (Some (permit 0 0)) refl refl (λ e. omega arith) refl tt,
)

-- the cell is pending, and then the entry is committed
pub commitment : Step before (lent ∷ waiting ∷ spent ∷ []) bumped (pending ∷ waiting ∷ spent ∷ [])
    × Step bumped (pending ∷ waiting ∷ spent ∷ []) after (used ∷ waiting ∷ spent ∷ [])
commitment = (
  Step.bumps before (lent ∷ waiting ∷ spent ∷ []) 0 lent 2 refl refl (omega arith, omega arith) refl,
  Step.commits bumped (pending ∷ waiting ∷ spent ∷ []) 0 pending called refl refl ((λ c. refl), (refl, tt), refl, omega arith),
)

-- the meeting: a copy of the baton takes the permit home, and the pass reads the number of entries
pub meeting : Step after (used ∷ waiting ∷ []) after coming
    × Step after coming after (done ∷ told ∷ spent ∷ [])
    × Step after (done ∷ told ∷ []) after (done ∷ seen ∷ [])
meeting = (
  Step.gives_permit after (used ∷ waiting ∷ []) 0 used refl refl,
  Step.pass_takes after coming 1 2 waiting all (Some (permit 0 1)) refl refl (λ e. omega arith) refl refl,
  Step.fronts after (done ∷ told ∷ []) 1 told refl refl,
)

-- a look, after which it is the last, and copies of pass and baton that leave both as they were
pub looking : Step after (done ∷ seen ∷ []) after (done ∷ looked ∷ [])
    × Step after (done ∷ seen ∷ []) after (done ∷ seen ∷ copy (memory (called ∷ []) None 1) None ∷ [])
    × Step after (done ∷ seen ∷ []) after (done ∷ seen ∷ copy all None ∷ [])
looking = (
  Step.looks after (done ∷ seen ∷ []) 1 seen 2 refl refl (omega arith, omega arith),
  Step.copies_pass after (done ∷ seen ∷ []) 1 seen refl refl,
  Step.copies_baton after (done ∷ seen ∷ []) 0 done refl refl,
)

-- a world at the start, and after one step
pub worlds : Reached (replicate 4097 0) (baton [] [] None [] 0 ∷ []) × Reached (replicate 4097 0) (free ∷ new ∷ [])
worlds =
    let start = Reached.start (replicate 4097 0) refl in (
      start,
      Reached.then (replicate 4097 0) (baton [] [] None [] 0 ∷ []) (replicate 4097 0) (free ∷ new ∷ []) start
          (Step.makes_pass (replicate 4097 0) (baton [] [] None [] 0 ∷ []) 0 (baton [] [] None [] 0) refl refl),
    )
