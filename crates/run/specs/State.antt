-- What a run holds, and how a step changes it.
use Rattle.std.specs.Prelude.{ℕ, Bool, true, false, cond, ◌&&◌, List, [], ◌∷◌, length, take, replicate, ◌==◌, nat_le, slice_set}
use Rattle.journal.specs.Limits.{most_stations}
use Rattle.journal.specs.Meaning.{Section, section}
use Rattle.presumption.specs.Answers.{Answers}
use Rattle.stations.specs.Stations.{blank, turn_entry, rebuilt}
use Rattle.actor.specs.Store.{Store, store, all_done, journal_cut, burns}
use Rattle.stations.specs.declared.Station.{Station}
use Rattle.stations.specs.declared.Turn.{Turn}
use Rattle.station.specs.Acts.{Act}

-- A run: whether it was fit at its making; journals, post and log; the stations.
pub record State : Type 0 where
  pub fit : Bool
  pub store : Store
  pub stations : List Station

-- The same run with another store.
abbrev pub with_store : Store → State → State
with_store w st = record { fit = st.fit; store = w; stations = st.stations }

-- The same run with other stations.
abbrev pub with_stations : List Station → State → State
with_stations xs st = record { fit = st.fit; store = st.store; stations = xs }

-- The least room that a run asks of a section.
abbrev pub least_capacity : ℕ
least_capacity = 160

-- A section that a run can begin with: it has that room, and no records yet.
abbrev pub ready : Section → Bool
ready p = nat_le least_capacity p.capacity && (length p.stable == 0 && length p.unforced == 0)

-- Every section is such a one.
unfoldable pub all_ready : List Section → Bool
all_ready [] = true
all_ready (p ∷ m) = ready p && all_ready m

-- The journal serves 2 to 8 stations, each with a section that is ready.
abbrev pub fits : List Section → Bool
fits m = nat_le 2 (length m) && (nat_le (length m) most_stations && all_ready m)

-- A fresh run over a journal: power everywhere, no entry, nothing posted or logged.
abbrev pub fresh : List Section → State
fresh m = record { fit = fits m; store = store m [] []; stations = replicate (length m) (blank true) }

-- The power fails at station s: its journal is cut with k records kept, its entries are gone, it is dark.
abbrev pub cut_off : ℕ → ℕ → State → State
cut_off s k st = record { fit = st.fit; store = journal_cut s k st.store; stations = slice_set st.stations s (blank false) }

-- A step of station s: its acts, then its entry changes. If the fuse f is below the number of acts,
-- that many acts are done, and then the station is cut with k records kept.
unfoldable pub stepped : ℕ → ℕ → List Act → Turn → ℕ → ℕ → State → State
stepped s r acts turn f k st =
    cond (burns f acts)
    (cut_off s k (with_store (all_done s (take f acts) st.store) st))
    (with_stations (turn_entry s r turn st.stations) (with_store (all_done s acts st.store) st))

-- The power returns at station s.
abbrev pub restarted : Answers → ℕ → State → State
restarted π s st = with_stations (slice_set st.stations s (rebuilt π (section st.store.journal s).stable)) st
