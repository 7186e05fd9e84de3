-- The posts of the workers.
use Rattle.shared_chart.specs.Seats.{ChartSeat}
use Rattle.chart_workers.specs.declared.posts.Post.{Post}

module _ {X T C W B : Type 0} where
  abbrev pub post_seat : Post X T C W B → ChartSeat X T C W B
  post_seat p = p.seat
